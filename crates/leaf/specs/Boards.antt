-- The common form of the locks that are made of registers: what a call does, and what it means.
-- Assumes nothing.
use Rattle.std.specs.Prelude.{◌≡◌, ℕ, zero, suc, ◌+◌, ◌≤◌, cond, List, length, take, Some, None, Option, nat_lt, slice_index, slice_index_or, slice_set, Ok, Err}
use Rattle.lock.specs.declared.Phase.{Phase}
use Rattle.lock.specs.declared.Phase.TheVariants.{Out, Bidding, Holding, Leaving}
use Rattle.lock.specs.declared.Answer.{Answer}
use Rattle.lock.specs.declared.Answer.TheVariants.{Waits, Moves, Enters, Out as Gone}
use Rattle.lock.specs.declared.Kind.{Kind}
use Rattle.lock.specs.declared.Kind.TheVariants.{Bid, Step, Leave}
use Rattle.lock.specs.declared.Call.{Call}
use Rattle.lock.specs.declared.Refusal.{Refusal}
use Rattle.lock.specs.Calls.{Reply}
use Rattle.lock.specs.Meaning.{Meaning, Mark, shut, open_after, refusal_of}
pub use Rattle.lock.specs.Totals.{total}

-- the boxes' records, the registers and the bids taken; X is the type of a box's record
pub record Board (X : Type 0) : Type 0 where
  pub boxes : List X
  pub registers : List ℕ
  pub bids : ℕ

-- what one step does: the box's next record, the answer, and the register it writes with the value
pub record Action (X : Type 0) : Type 0 where
  pub next : X
  pub answer : Answer
  pub writes : Option (ℕ × ℕ)

-- what a call returns, and the board it leaves
pub record Outcome (X : Type 0) : Type 0 where
  pub reply : Reply
  pub board : Board X

pub record Algorithm (X : Type 0) : Type 0 where
  pub places : ℕ
  pub register_count : ℕ
  -- S and M
  pub wait_limit : ℕ
  pub call_limit : ℕ
  pub phase : X → Phase
  -- the records of a box that is out, that has just bid, and that has just begun to leave
  pub out : X
  pub bidding : X
  pub leaving : X
  -- the register that a box reads in its next step, if any
  pub reads : ℕ → X → Option ℕ
  -- what the box of a place does by its record and the value read, which is 0 where it reads none
  pub acts : ℕ → X → ℕ → Action X
  -- how many calls a box still makes before it enters, not counting those that wait
  pub left : ℕ → X → ℕ

abbrev pub value : List ℕ → Option ℕ → ℕ
value rs (Some k) = slice_index rs k
value rs None = 0

abbrev pub written : List ℕ → Option (ℕ × ℕ) → List ℕ
written rs (Some w) = slice_set rs w.0 w.1
written rs None = rs

abbrev pub or_here : Option ℕ → Phase → ℕ → Option ℕ
or_here (Some p) f n = Some p
or_here None Out n = None
or_here None Bidding n = None
or_here None Holding n = Some n
or_here None Leaving n = None

-- the first of n places whose phase is holding
abbrev pub first_holding : (ℕ → Phase) → ℕ → Option ℕ
first_holding f zero = None
first_holding f (suc n) = or_here (first_holding f n) (f n) n

abbrev pub mark_by : Answer → Mark → Mark
mark_by Waits shut = shut
mark_by Waits (open_after d) = open_after (suc d)
mark_by Moves m = open_after 0
mark_by Enters m = open_after 0
mark_by Gone m = open_after 0

module _ {X : Type 0} (A : Algorithm X) where
  -- what a box does next, with these registers
  abbrev pub action : List ℕ → ℕ → X → Action X
  action rs p x = A.acts p x (value rs (A.reads p x))

  -- how often a box waits before it gets on, if no register changes: shut where that is n times or more
  abbrev pub mark_within : ℕ → List ℕ → ℕ → X → Mark
  mark_within zero rs p x = shut
  mark_within (suc n) rs p x = mark_by (action rs p x).answer (mark_within n rs p (action rs p x).next)

  -- the record of the box of a place
  abbrev pub box_at : Board X → ℕ → X
  box_at b p = slice_index_or b.boxes p A.out

  abbrev pub phase_at : Board X → ℕ → Phase
  phase_at b p = cond (nat_lt p A.places) (A.phase (box_at b p)) Out

  abbrev pub meaning_of : Board X → Meaning
  meaning_of b =
      record {
        places = A.places;
        wait_limit = A.wait_limit;
        call_limit = A.call_limit;
        phase = phase_at b;
        holder = first_holding (phase_at b) A.places;
        bids = b.bids;
        registers = take A.register_count b.registers;
        credit = total (λ p. A.left p (box_at b p)) A.places;
        mark = λ p. mark_within A.wait_limit b.registers p (box_at b p);
      }

  -- an accepted call changes the record of its own box and, a step, at most one register
  abbrev pub accepted : Kind → ℕ → Board X → Outcome X
  accepted Bid p b =
      record {
        reply = Ok None;
        board = record { boxes = slice_set b.boxes p A.bidding; registers = b.registers; bids = b.bids + 1 };
      }
  accepted Step p b =
      let a = action b.registers p (box_at b p) in
      record {
        reply = Ok (Some a.answer);
        board = record { boxes = slice_set b.boxes p a.next; registers = written b.registers a.writes; bids = b.bids };
      }
  accepted Leave p b =
      record {
        reply = Ok None;
        board = record { boxes = slice_set b.boxes p A.leaving; registers = b.registers; bids = b.bids };
      }

  abbrev pub outcome_by : Option Refusal → Call → Board X → Outcome X
  outcome_by (Some e) c b = record { reply = Err e; board = b }
  outcome_by None c b = accepted c.kind c.place b

  -- what a call returns and leaves
  abbrev pub outcome : Call → Board X → Outcome X
  outcome c b = outcome_by (refusal_of (meaning_of b) c) c b

  -- what every board of the algorithm keeps: a record for each place, the registers, bids within bounds
  pub record Tidy (b : Board X) : Type 0 where
    pub all_boxes : A.places ≤ length b.boxes
    pub all_registers : A.register_count ≤ length b.registers
    pub few_bids : b.bids ≤ 1000000

  -- a board just made
  pub record Blank (b : Board X) : Type 0 where
    pub tidy : Tidy b
    pub no_bids : b.bids ≡ 0
    pub all_out : (p : ℕ) → box_at b p ≡ A.out
    pub all_zero : (k : ℕ) → slice_index b.registers k ≡ 0
