-- What a pile means, from what its three parts mean. Assumes nothing.
use Rattle.std.specs.Prelude.{ℕ, zero, suc, ◌+◌, ◌-◌, ◌*◌, ◌^◌, min, max, cond, ◌++◌, take, Some, None, Option, nat_lt}
use Rattle.lock.specs.declared.Phase.{Phase}
use Rattle.lock.specs.declared.Phase.TheVariants.{Out, Bidding, Holding, Leaving}
use Rattle.lock.specs.Meaning.{Meaning, Mark, shut}
use Rattle.pile.specs.declared.Side.{Side}
use Rattle.pile.specs.declared.Side.TheVariants.{Left, Right}
use Rattle.pile.specs.Finding.{Meanings, side_of, top_place, pile_places, room, found}

-- the side's own, or the top's where the side's phase is holding
abbrev pub own_or_top : {X : Type 0} → Phase → X → X → X
own_or_top Out own above = own
own_or_top Bidding own above = own
own_or_top Holding own above = above
own_or_top Leaving own above = own

-- the phase and the mark of the box at place i of side d

abbrev pub box_phase : Meanings → Side → ℕ → Phase
box_phase m d i = own_or_top ((side_of d m).phase i) ((side_of d m).phase i) (m.top.phase (top_place d))

abbrev pub box_mark : Meanings → Side → ℕ → Mark
box_mark m d i = own_or_top ((side_of d m).phase i) ((side_of d m).mark i) (m.top.mark (top_place d))

-- a function of the box where there is one, else x
abbrev pub of_box : {X : Type 0} → (Side → ℕ → X) → X → Option (Side × ℕ) → X
of_box f x (Some b) = f b.0 b.1
of_box f x None = x

-- n more than the number, where that is within the limit
abbrev pub shifted : ℕ → ℕ → Option ℕ → Option ℕ
shifted n limit (Some i) = cond (nat_lt i limit) (Some (n + i)) None
shifted n limit None = None

-- the holder of the side whose top place is the one that holds
abbrev pub holder_by : Option ℕ → Meanings → Option ℕ
holder_by None m = None
holder_by (Some zero) m = m.left.holder
holder_by (Some (suc zero)) m = shifted m.left.places (room Right m) m.right.holder
holder_by (Some (suc (suc k))) m = None

-- what is set aside for a side besides its own credit: M of the side, and nothing while its box bids at the top
abbrev pub reserve : Phase → ℕ → ℕ
reserve Out limit = limit
reserve Bidding limit = 0
reserve Holding limit = limit
reserve Leaving limit = limit

abbrev pub share : Side → Meanings → ℕ
share d m = (side_of d m).credit + reserve (m.top.phase (top_place d)) (side_of d m).call_limit

-- the code counts in 32 bits; a sound pile stays far below
abbrev pub pile_bids : Meanings → ℕ
pile_bids m = min (m.left.bids + m.right.bids) (2 ^ 32 - 1)

abbrev pub pile_meaning : Meanings → Meaning
pile_meaning m =
    record {
      places = pile_places m;
      wait_limit = max m.top.wait_limit (max m.left.wait_limit m.right.wait_limit);
      call_limit = m.top.call_limit + 2 * m.left.call_limit + 2 * m.right.call_limit;
      phase = λ p. of_box (box_phase m) Out (found m p);
      holder = holder_by m.top.holder m;
      bids = pile_bids m;
      registers = take 4096 (m.top.registers ++ (m.left.registers ++ m.right.registers));
      credit = m.top.credit + share Left m + share Right m;
      mark = λ p. of_box (box_mark m) shut (found m p);
    }
