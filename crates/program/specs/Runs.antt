-- What the program makes of an input: a refusal, or the report of a replay. Assumes nothing.
use Rattle.std.specs.Prelude.{◌≡◌, ℕ, cond, List, [], ◌∷◌, take, Ok, Err, string_bytes, Result, ◌==◌}
use Rattle.std.specs.declared.string.String.{String}
use Rattle.std.specs.declared.alloc.Global.{Global}
use Rattle.lock.specs.Meaning.{Form}
use Rattle.lock.specs.Pasts.{Event, Past}
use Rattle.leaf.specs.PetersonLines.{peterson_made, peterson_form}
use Rattle.shapes.specs.Shapes.{eight_form, eight_made, three_form, three_made}
use Rattle.record.specs.Layout.{calls_in}
use Rattle.replay.specs.declared.faults.ReplayFault.{ReplayFault}
use Rattle.replay.specs.Replays.{replay_test, calls_made}
use Rattle.replay.specs.Reports.{entries, summary_of}
use Rattle.program.specs.declared.faults.ProgramFault.{ProgramFault}
use Rattle.program.specs.declared.faults.ProgramFault.TheVariants.{OfReplay, NoPile}
use Rattle.program.specs.declared.faults.RunError.{RunError}
use Rattle.program.specs.declared.faults.RunError.TheVariants.{Refused, OutOfMemory}
use Rattle.program.specs.declared.runs.PileName.{PileName}
use Rattle.program.specs.declared.runs.PileName.TheVariants.{OnePeterson, EightBoxes, ByeAndPeterson}
use Rattle.program.specs.Lines.{report_text}

-- what a run returns
abbrev pub Returned : Type 0
Returned = Result (String Global) RunError

module _ {L : Type 0} (F : Form L) where
  -- the text reports a past of the lock s that is made of exactly the record's calls in their order
  pub record Reports (s : L) (pile : ℕ) (bs text : List ℕ) : Type 0 where
    pub end : L
    pub events : List Event
    pub past : Past F s events end
    pub calls : calls_made events ≡ calls_in bs
    pub lines : text ≡ report_text pile (F.meaning end) (entries events) (summary_of events)

  -- a record on the lock s with so many slots in the log: reported, or refused as a replay refuses it
  abbrev pub Played : L → ℕ → List ℕ → ℕ → Returned → Type 0
  Played s pile bs slots (Ok text) = (replay_test (F.meaning s).places slots bs ≡ Ok tt) × Reports s pile bs (string_bytes text)
  Played s pile bs slots (Err (Refused e)) = (f : ReplayFault) × (e ≡ OfReplay f) × (replay_test (F.meaning s).places slots bs ≡ Err f)
  Played s pile bs slots (Err OutOfMemory) = Unit {0}

-- which pile a number names
abbrev pub pile_of : ℕ → Result PileName ProgramFault
pile_of k =
    cond (k == 1) (Ok OnePeterson) (cond (k == 4) (Ok EightBoxes) (cond (k == 6) (Ok ByeAndPeterson) (Err NoPile)))

-- the bytes of an input that are handed on as a record: one more than a record can have
abbrev pub handed_on : List ℕ → List ℕ
handed_on bs = take 40017 bs

-- what becomes of a record on a pile, which is printed with its number
abbrev pub OnPile : PileName → List ℕ → ℕ → Returned → Type 0
OnPile OnePeterson bs slots r = Played peterson_form peterson_made 1 bs slots r
OnPile EightBoxes bs slots r = Played eight_form eight_made 4 bs slots r
OnPile ByeAndPeterson bs slots r = Played three_form three_made 6 bs slots r

abbrev pub OnPileOrNone : Result PileName ProgramFault → List ℕ → Returned → Type 0
OnPileOrNone (Ok pile) bs r = OnPile pile bs 20000 r
OnPileOrNone (Err e) bs r = r ≡ Err (Refused e)

-- what the program makes of an input: its first byte names the pile, which is tested first
abbrev pub Runs : List ℕ → Returned → Type 0
Runs [] r = r ≡ Err (Refused NoPile)
Runs (number ∷ bs) r = OnPileOrNone (pile_of number) (handed_on bs) r
