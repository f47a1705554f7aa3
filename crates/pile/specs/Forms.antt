-- Piles of any shape, from the forms of their parts. Assumes nothing.
use Rattle.lock.specs.Meaning.{Form}
use Rattle.pile.specs.declared.Pile.{Pile}
use Rattle.pile.specs.PileCalls.{pile_means, pile_made, PileTakes}

-- a pile of three locks
abbrev pub piled : {T L R : Type 0} → Form T → Form L → Form R → Form (Pile T L R)
piled top left right =
    record { meaning = pile_means top left right; takes = PileTakes top left right; made = pile_made top left right }

-- a pile whose left part is a pile
abbrev pub nested : {T U F S L : Type 0} → Form T → Form U → Form F → Form S → Form L → Form (Pile T (Pile U F S) L)
nested top upper first second last = piled top (piled upper first second) last
