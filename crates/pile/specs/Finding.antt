-- How many places a pile has, and at which side each of them is. Assumes nothing.
use Rattle.std.specs.Prelude.{ℕ, ◌+◌, ◌-◌, min, cond, Some, None, Option, nat_le, nat_lt}
use Rattle.lock.specs.Meaning.{Meaning}
use Rattle.pile.specs.declared.Side.{Side}
use Rattle.pile.specs.declared.Side.TheVariants.{Left, Right}
use Rattle.pile.specs.declared.Pile.{Pile}

-- what the three parts of a pile mean
abbrev pub Meanings : Type 0
Meanings = Pile Meaning Meaning Meaning

abbrev pub side_of : Side → Meanings → Meaning
side_of Left m = m.left
side_of Right m = m.right

-- the place of the top that the boxes of a side use
abbrev pub top_place : Side → ℕ
top_place Left = 0
top_place Right = 1

-- left and right places together, but 64 at most, and with one place at the top only the left ones
abbrev pub pile_places : Meanings → ℕ
pile_places m = cond (nat_le m.top.places 1) m.left.places (min (m.left.places + m.right.places) 64)

-- how many places of a side are places of the pile
abbrev pub room : Side → Meanings → ℕ
room Left m = m.left.places
room Right m = pile_places m - m.left.places

-- the side of a place and its place there; nothing where the pile has no such place
abbrev pub found : Meanings → ℕ → Option (Side × ℕ)
found m p = cond (nat_lt p (pile_places m)) (Some (cond (nat_lt p m.left.places) (Left, p) (Right, p - m.left.places))) None
