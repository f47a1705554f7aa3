-- The lock of one place, which never waits. Assumes nothing.
use Rattle.std.specs.Prelude.{◌≡◌, ℕ, [], ◌∷◌, None}
use Rattle.lock.specs.declared.Phase.{Phase}
use Rattle.lock.specs.declared.Phase.TheVariants.{Out, Bidding, Holding, Leaving}
use Rattle.lock.specs.declared.Answer.TheVariants.{Moves, Enters, Out as Gone}
use Rattle.lock.specs.declared.Call.{Call}
use Rattle.lock.specs.Calls.{Reply}
use Rattle.lock.specs.Meaning.{Meaning, Form}
use Rattle.leaf.specs.declared.bye.Bye.{Bye}
use Rattle.leaf.specs.Boards.{Board, Action, Algorithm, Tidy, meaning_of, outcome}

-- the box's line is its phase; a box that is out or holding makes no step
abbrev pub bye_acts : Phase → Action Phase
bye_acts Out = record { next = Out; answer = Moves; writes = None }
bye_acts Bidding = record { next = Holding; answer = Enters; writes = None }
bye_acts Holding = record { next = Holding; answer = Moves; writes = None }
bye_acts Leaving = record { next = Out; answer = Gone; writes = None }

-- the calls before the entry that do not wait: the bid; a holder first leaves
abbrev pub bye_left : Phase → ℕ
bye_left Out = 1
bye_left Bidding = 0
bye_left Holding = 3
bye_left Leaving = 2

abbrev pub bye : Algorithm Phase
bye =
    record {
      places = 1;
      register_count = 0;
      wait_limit = 1;
      call_limit = 3;
      phase = λ x. x;
      out = Out;
      bidding = Bidding;
      leaving = Leaving;
      reads = λ i x. None;
      acts = λ i x v. bye_acts x;
      left = λ i x. bye_left x;
    }

abbrev pub bye_board : Bye → Board Phase
bye_board s = record { boxes = s.phase ∷ []; registers = []; bids = s.bids }

abbrev pub bye_meaning : Bye → Meaning
bye_meaning s = meaning_of bye (bye_board s)

-- what a call on the lock returns and leaves is what the lines say
abbrev pub ByeTakes : Bye → Call → Reply → Bye → Type 0
ByeTakes s c r t = outcome bye c (bye_board s) ≡ record { reply = r; board = bye_board t }

abbrev pub bye_made : Bye
bye_made = record { phase = Out; bids = 0 }

abbrev pub bye_form : Form Bye
bye_form = record { meaning = bye_meaning; takes = ByeTakes; made = λ s. bye_made }

-- the bye needs no invariant beyond what every board keeps
abbrev pub NoMore : Board Phase → Type 0
NoMore b = Unit {0}

abbrev pub ByeSound : Bye → Type 0
ByeSound s = Tidy bye (bye_board s) × NoMore (bye_board s)
