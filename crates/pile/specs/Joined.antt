-- How the three parts of a pile hang together. Assumes nothing.
use Rattle.std.specs.Prelude.{◌≡◌, ℕ, ◌+◌, ◌≤◌, ◌≢◌}
use Rattle.lock.specs.declared.Phase.{Phase}
use Rattle.lock.specs.declared.Phase.TheVariants.{Out, Bidding, Holding, Leaving}
use Rattle.lock.specs.Totals.{total}
use Rattle.pile.specs.declared.Side.{Side}
use Rattle.pile.specs.declared.Side.TheVariants.{Left, Right}
use Rattle.pile.specs.declared.Pile.{Pile}
use Rattle.pile.specs.Finding.{Meanings, side_of, top_place, room}

abbrev pub bids_now : Phase → ℕ
bids_now Out = 0
bids_now Bidding = 1
bids_now Holding = 0
bids_now Leaving = 0

-- how many places of a side are bidding there
abbrev pub bidders : Side → Meanings → ℕ
bidders d m = total (λ i. bids_now ((side_of d m).phase i)) (side_of d m).places

pub record Joined (m : Meanings) : Type 0 where
  -- a side with a holder has its top place in use
  pub held_in_use : (d : Side) (i : ℕ) → (side_of d m).phase i ≡ Holding → m.top.phase (top_place d) ≢ Out
  -- a top place in use has a holder at its side
  pub in_use_held : (d : Side) → (m.top.phase (top_place d) ≢ Out) → (i : ℕ) × ((side_of d m).phase i ≡ Holding)
  -- no other place of the top is in use
  pub rest_out : (k : ℕ) → 2 ≤ k → m.top.phase k ≡ Out
  -- the top has taken a bid for each bid at a side, but for those of the boxes that still bid there
  pub top_behind : m.top.bids + (bidders Left m + bidders Right m) ≤ m.left.bids + m.right.bids
  pub few_bids : m.left.bids + m.right.bids ≤ 1000000
  -- a place of a side that is no place of the pile is out
  pub cut_out : (d : Side) (i : ℕ) → room d m ≤ i → (side_of d m).phase i ≡ Out

module _ {T L R : Type 0} (top_sound : T → Type 0) (left_sound : L → Type 0) (right_sound : R → Type 0) where
  pub record PileSound (means : Pile T L R → Meanings) (s : Pile T L R) : Type 0 where
    pub top : top_sound s.top
    pub left : left_sound s.left
    pub right : right_sound s.right
    pub joined : Joined (means s)
