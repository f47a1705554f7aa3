-- What a lock means, and how a call may change that. Assumes nothing.
use Rattle.std.specs.Prelude.{◌≡◌, ℕ, pred, ◌+◌, ◌<◌, ◌≤◌, cond, List, length, Some, None, Option, ◌≢◌, nat_lt, Ok, Err}
use Rattle.std.specs.List.{slice_get}
use Rattle.lock.specs.declared.Phase.{Phase}
use Rattle.lock.specs.declared.Phase.TheVariants.{Out, Bidding, Holding, Leaving}
use Rattle.lock.specs.declared.Answer.{Answer}
use Rattle.lock.specs.declared.Answer.TheVariants.{Waits, Moves, Enters, Out as Gone}
use Rattle.lock.specs.declared.Kind.{Kind}
use Rattle.lock.specs.declared.Kind.TheVariants.{Bid, Step, Leave}
use Rattle.lock.specs.declared.Call.{Call}
use Rattle.lock.specs.declared.Refusal.{Refusal}
use Rattle.lock.specs.Calls.{Reply, refusal}

-- the mark of a place: shut, or open, with how often it may still wait before it gets on
pub data Mark : Type 0 where
  shut : Mark
  open_after : ℕ → Mark

pub record Meaning : Type 0 where
  -- n, the number of places
  pub places : ℕ
  -- S: an open place waits fewer times than this
  pub wait_limit : ℕ
  -- M: no more calls than this neither wait nor enter between two entries
  pub call_limit : ℕ
  pub phase : ℕ → Phase
  -- the place that the question who holds names
  pub holder : Option ℕ
  -- the bids taken
  pub bids : ℕ
  pub registers : List ℕ
  -- the credit: how many such calls are left before the next entry
  pub credit : ℕ
  pub mark : ℕ → Mark

-- what the questions answer

abbrev pub phase_answer : Meaning → ℕ → Option Phase
phase_answer m p = cond (nat_lt p m.places) (Some (m.phase p)) None

abbrev pub register_answer : Meaning → ℕ → Option ℕ
register_answer m k = slice_get m.registers k

-- a place that bids or leaves still has steps to make
abbrev pub Active : Phase → Type 0
Active Out = ⊥
Active Bidding = Unit {0}
Active Holding = ⊥
Active Leaving = Unit {0}

pub record WellFormed (m : Meaning) : Type 0 where
  pub some_place : 1 ≤ m.places
  pub few_places : m.places ≤ 64
  pub few_bids : m.bids ≤ 1000000
  pub few_registers : length m.registers ≤ 4096
  pub within_limit : m.credit ≤ m.call_limit
  pub out_beyond : (p : ℕ) → m.places ≤ p → m.phase p ≡ Out
  -- the place named holds, and a place that holds is the one named: so at most one holds
  pub named_holds : (p : ℕ) → m.holder ≡ Some p → m.phase p ≡ Holding
  pub holding_named : (p : ℕ) → m.phase p ≡ Holding → m.holder ≡ Some p
  pub short_delay : (p d : ℕ) → m.mark p ≡ open_after d → d < m.wait_limit
  -- while no place holds and some place is active, some active place is open
  pub some_open : ((p : ℕ) → m.phase p ≢ Holding) → (p : ℕ) → Active (m.phase p) → (q d : ℕ) × Active (m.phase q) × (m.mark q ≡ open_after d)

-- n, S and M stay
pub record SameSize (m m' : Meaning) : Type 0 where
  pub places : m'.places ≡ m.places
  pub wait_limit : m'.wait_limit ≡ m.wait_limit
  pub call_limit : m'.call_limit ≡ m.call_limit

-- the phase of place p becomes f, and no other phase changes
pub record Turns (m : Meaning) (p : ℕ) (f : Phase) (m' : Meaning) : Type 0 where
  pub own : m'.phase p ≡ f
  pub others : (q : ℕ) → (q ≢ p) → m'.phase q ≡ m.phase q

abbrev pub SamePhases : Meaning → Meaning → Type 0
SamePhases m m' = (q : ℕ) → m'.phase q ≡ m.phase q

-- a wait: a shut place stays shut, an open one has a delay, and it falls by one
abbrev pub MarkWaited : Mark → Mark → Type 0
MarkWaited shut after = after ≡ shut
MarkWaited (open_after d) after = (0 < d) × (after ≡ open_after (pred d))

pub record Waited (m : Meaning) (p : ℕ) (m' : Meaning) : Type 0 where
  pub bidding : m.phase p ≡ Bidding
  pub phases : SamePhases m m'
  pub registers : m'.registers ≡ m.registers
  pub credit : m'.credit ≡ m.credit
  pub own_mark : MarkWaited (m.mark p) (m'.mark p)
  pub other_marks : (q : ℕ) → (q ≢ p) → m'.mark q ≡ m.mark q

pub record Moved (m m' : Meaning) : Type 0 where
  pub phases : SamePhases m m'
  pub credit : m'.credit < m.credit

-- an entry: the credit may be any number within the limit
pub record Entered (m : Meaning) (p : ℕ) (m' : Meaning) : Type 0 where
  pub bidding : m.phase p ≡ Bidding
  pub phases : Turns m p Holding m'

pub record GoneOut (m : Meaning) (p : ℕ) (m' : Meaning) : Type 0 where
  pub leaving : m.phase p ≡ Leaving
  pub phases : Turns m p Out m'
  pub credit : m'.credit < m.credit

abbrev pub Stepped : Meaning → ℕ → Answer → Meaning → Type 0
Stepped m p Waits m' = Waited m p m'
Stepped m p Moves m' = Moved m m'
Stepped m p Enters m' = Entered m p m'
Stepped m p Gone m' = GoneOut m p m'

-- an accepted bid or leave gives its place the phase f and takes so many bids
pub record TurnTaken (m : Meaning) (p : ℕ) (f : Phase) (bids : ℕ) (r : Reply) (m' : Meaning) : Type 0 where
  pub reply : r ≡ Ok None
  pub phases : Turns m p f m'
  pub registers : m'.registers ≡ m.registers
  pub credit : m'.credit < m.credit
  pub more_bids : m'.bids ≡ m.bids + bids

abbrev pub Accepted : Meaning → Kind → ℕ → Reply → Meaning → Type 0
Accepted m Bid p r m' = TurnTaken m p Bidding 1 r m'
Accepted m Step p r m' = (a : Answer) × (r ≡ Ok (Some a)) × Stepped m p a m' × (m'.bids ≡ m.bids)
Accepted m Leave p r m' = TurnTaken m p Leaving 0 r m'

-- what a call may make of the meaning: it is refused and changes nothing, or accepted
abbrev pub Changes : Option Refusal → Meaning → Call → Reply → Meaning → Type 0
Changes (Some e) m c r m' = (r ≡ Err e) × (m' ≡ m)
Changes None m c r m' = Accepted m c.kind c.place r m' × SameSize m m'

abbrev pub refusal_of : Meaning → Call → Option Refusal
refusal_of m c = refusal m.places (m.phase c.place) m.bids c

-- what making leaves
pub record Fresh (m : Meaning) : Type 0 where
  pub all_out : (p : ℕ) → m.phase p ≡ Out
  pub no_bids : m.bids ≡ 0
  pub registers_zero : (k v : ℕ) → register_answer m k ≡ Some v → v ≡ 0

-- what is known of a lock: what others may know of it, what its calls do, and how it was made.
-- `takes s c r t` says that the call c on s returns r and leaves t, and `made s` is the lock s as
-- its making left it
pub record Form (L : Type 0) : Type 1 where
  pub meaning : L → Meaning
  pub takes : L → Call → Reply → L → Type 0
  pub made : L → L

-- what each lock owes; `sound` is its own invariant
pub record Keeps {L : Type 0} (F : Form L) (sound : L → Type 0) : Type 0 where
  pub made_sound : (s : L) → sound (F.made s)
  pub made_fresh : (s : L) → Fresh (F.meaning (F.made s))
  pub made_sizes : (s : L) → SameSize (F.meaning s) (F.meaning (F.made s))
  pub stays_sound : (s t : L) (c : Call) (r : Reply) → sound s → F.takes s c r t → sound t
  pub well_formed : (s : L) → sound s → WellFormed (F.meaning s)
  pub changes : (s t : L) (c : Call) (r : Reply) → sound s → F.takes s c r t → Changes (refusal_of (F.meaning s) c) (F.meaning s) c r (F.meaning t)
  -- a refused call leaves not only the meaning but the lock itself as it was
  pub untouched : (s t : L) (c : Call) (e : Refusal) → F.takes s c (Err e) t → t ≡ s
