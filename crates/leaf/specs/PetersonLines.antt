-- Peterson's lock for two boxes, line by line. Assumes nothing.
use Rattle.std.specs.Prelude.{◌≡◌, ℕ, ◌-◌, ◌<◌, Bool, true, false, cond, replicate, Some, None, Option, ◌==◌, slice_index}
use Rattle.lock.specs.declared.Phase.{Phase}
use Rattle.lock.specs.declared.Phase.TheVariants.{Out as IsOut, Bidding as IsBidding, Holding as IsHolding, Leaving as IsLeaving}
use Rattle.lock.specs.declared.Answer.TheVariants.{Waits, Moves, Enters, Out as Gone}
use Rattle.lock.specs.declared.Call.{Call}
use Rattle.lock.specs.Calls.{Reply}
use Rattle.lock.specs.Meaning.{Meaning, Form}
use Rattle.leaf.specs.declared.peterson.Line.{Line}
use Rattle.leaf.specs.declared.peterson.Line.TheVariants.{Out, One, Two, Three, Four, Holding, Leaving}
use Rattle.leaf.specs.declared.peterson.BoxRecord.{BoxRecord}
use Rattle.leaf.specs.declared.peterson.Peterson.{Peterson}
use Rattle.leaf.specs.Boards.{Board, Action, Algorithm, Tidy, meaning_of, outcome, box_at}

abbrev pub line_phase : Line → Phase
line_phase Out = IsOut
line_phase One = IsBidding
line_phase Two = IsBidding
line_phase Three = IsBidding
line_phase Four = IsBidding
line_phase Holding = IsHolding
line_phase Leaving = IsLeaving

abbrev pub at : Line → BoxRecord
at l = record { line = l }

-- registers 0 and 1 are W0 and W1, and register 2 is P
abbrev pub reads : ℕ → Line → Option ℕ
reads i Out = None
reads i One = None
reads i Two = None
reads i Three = Some 2
reads i Four = Some (1 - i)
reads i Holding = None
reads i Leaving = None

-- what box i does at a line with the value read; a box that is out or holding makes no step
abbrev pub acts : ℕ → Line → ℕ → Action BoxRecord
acts i Out v = record { next = at Out; answer = Moves; writes = None }
acts i One v = record { next = at Two; answer = Moves; writes = Some (i, 1) }
acts i Two v = record { next = at Three; answer = Moves; writes = Some (2, 1 - i) }
acts i Three v =
    cond (v == i) (record { next = at Holding; answer = Enters; writes = None }) (record { next = at Four; answer = Waits; writes = None })
acts i Four v =
    cond (v == 0) (record { next = at Holding; answer = Enters; writes = None }) (record { next = at Three; answer = Waits; writes = None })
acts i Holding v = record { next = at Holding; answer = Moves; writes = None }
acts i Leaving v = record { next = at Out; answer = Gone; writes = Some (i, 0) }

-- the calls before the entry that do not wait: the bid and lines 1 and 2; a holder first leaves
abbrev pub left : Line → ℕ
left Out = 3
left One = 2
left Two = 1
left Three = 0
left Four = 0
left Holding = 5
left Leaving = 4

abbrev pub peterson : Algorithm BoxRecord
peterson =
    record {
      places = 2;
      register_count = 3;
      wait_limit = 2;
      call_limit = 8;
      phase = λ x. line_phase x.line;
      out = at Out;
      bidding = at One;
      leaving = at Leaving;
      reads = λ i x. reads i x.line;
      acts = λ i x v. acts i x.line v;
      left = λ i x. left x.line;
    }

abbrev pub peterson_board : Peterson → Board BoxRecord
peterson_board s = record { boxes = s.boxes; registers = s.registers; bids = s.bids }

abbrev pub peterson_meaning : Peterson → Meaning
peterson_meaning s = meaning_of peterson (peterson_board s)

-- what a call on the lock returns and leaves is what the lines say
abbrev pub PetersonTakes : Peterson → Call → Reply → Peterson → Type 0
PetersonTakes s c r t = outcome peterson c (peterson_board s) ≡ record { reply = r; board = peterson_board t }

abbrev pub peterson_made : Peterson
peterson_made = record { boxes = replicate 2 (at Out); registers = replicate 3 0; bids = 0 }

abbrev pub peterson_form : Form Peterson
peterson_form = record { meaning = peterson_meaning; takes = PetersonTakes; made = λ s. peterson_made }

-- W of a box: 1 from line 1 on until the leaving line
abbrev pub flag : Line → ℕ
flag Out = 0
flag One = 0
flag Two = 1
flag Three = 1
flag Four = 1
flag Holding = 1
flag Leaving = 1

-- past line 2, so that P tells the box from the other
abbrev pub contends : Line → Bool
contends Out = false
contends One = false
contends Two = false
contends Three = true
contends Four = true
contends Holding = true
contends Leaving = true

-- has entered, and is not out yet
abbrev pub inside : Line → Bool
inside Out = false
inside One = false
inside Two = false
inside Three = false
inside Four = false
inside Holding = true
inside Leaving = true

abbrev pub line_of : Board BoxRecord → ℕ → Line
line_of b i = (box_at peterson b i).line

abbrev pub register_of : Board BoxRecord → ℕ → ℕ
register_of b k = slice_index b.registers k

-- what holds of box p at line l and its rival, box q at line l', with the registers f
pub record Rivals (p q : ℕ) (l l' : Line) (f : ℕ → ℕ) : Type 0 where
  -- each W tells whether its box is past line 1
  pub own_flag : f p ≡ flag l
  pub rival_flag : f q ≡ flag l'
  pub turn : f 2 < 2
  -- while a box is inside and the other contends, P is the number of the one inside
  pub own_order : inside l ≡ true → contends l' ≡ true → f 2 ≡ p
  pub rival_order : inside l' ≡ true → contends l ≡ true → f 2 ≡ q

abbrev pub Invariant : Board BoxRecord → Type 0
Invariant b = Rivals 0 1 (line_of b 0) (line_of b 1) (register_of b)

abbrev pub PetersonSound : Peterson → Type 0
PetersonSound s = Tidy peterson (peterson_board s) × Invariant (peterson_board s)
