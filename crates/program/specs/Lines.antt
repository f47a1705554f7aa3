-- The lines that the program prints. Assumes nothing.
use Rattle.std.specs.Prelude.{ℕ, List, [], ◌∷◌, ◌++◌, map, Some, None, codes, decimal, Option}
use Rattle.std.specs.List.{range_with_len, flat_map}
use Rattle.fault.specs.declared.Notice.{Notice}
use Rattle.fault.specs.Layers.{layer_name}
use Rattle.lock.specs.declared.Phase.{Phase}
use Rattle.lock.specs.declared.Phase.TheVariants.{Out, Bidding, Holding, Leaving}
use Rattle.lock.specs.Meaning.{Meaning}
use Rattle.replay.specs.declared.report.Counts.{Counts}
use Rattle.replay.specs.declared.report.Entry.{Entry}
use Rattle.replay.specs.declared.report.Summary.{Summary}

-- the byte of a fault, or that there is none
abbrev pub byte_text : Option ℕ → List ℕ
byte_text (Some byte) = decimal byte
byte_text None = codes "none"

abbrev pub refusal_text : Notice → List ℕ
refusal_text n =
    codes "refusal " ++ (decimal n.number ++ (codes " at " ++ (byte_text n.byte ++ (codes " " ++ (layer_name n.layer ++ codes "\n")))))

abbrev pub entry_text : Entry → List ℕ
entry_text e = codes "enters " ++ (decimal e.call ++ (codes " " ++ (decimal e.place ++ codes "\n")))

abbrev pub number_text : ℕ → List ℕ
number_text n = codes " " ++ decimal n

-- a word and then numbers
abbrev pub numbers_line : List ℕ → List ℕ → List ℕ
numbers_line word numbers = word ++ (flat_map number_text numbers ++ codes "\n")

abbrev pub counts_in_order : Counts → List ℕ
counts_in_order c = c.bids ∷ (c.leaves ∷ (c.waits ∷ (c.moves ∷ (c.enters ∷ (c.outs ∷ (c.refused ∷ []))))))

-- a phase is printed as its first letter
abbrev pub phase_letter : Phase → List ℕ
phase_letter Out = codes "o"
phase_letter Bidding = codes "b"
phase_letter Holding = codes "h"
phase_letter Leaving = codes "l"

-- the phases of all places
abbrev pub phases_of : Meaning → List Phase
phases_of m = map m.phase (range_with_len 0 m.places)

abbrev pub phases_line : List Phase → List ℕ
phases_line phases = codes "phases " ++ (flat_map phase_letter phases ++ codes "\n")

abbrev pub head_line : ℕ → ℕ → ℕ → List ℕ
head_line pile places calls =
    codes "pile " ++ (decimal pile ++ (codes " places " ++ (decimal places ++ (codes " calls " ++ (decimal calls ++ codes "\n")))))

-- all lines of a replay on the lock with this meaning
abbrev pub report_text : ℕ → Meaning → List Entry → Summary → List ℕ
report_text pile m entries summary =
    head_line pile m.places summary.calls
    ++ flat_map entry_text entries
    ++ numbers_line (codes "counts") (counts_in_order summary.counts)
    ++ numbers_line (codes "gap") (summary.gap ∷ [])
    ++ numbers_line (codes "passed") (summary.passed ∷ [])
    ++ numbers_line (codes "registers") m.registers
    ++ phases_line (phases_of m)
