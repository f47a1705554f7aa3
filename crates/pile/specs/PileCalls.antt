-- What each call makes of the three parts of a pile, and what it returns. Assumes nothing.
use Rattle.std.specs.Prelude.{◌≡◌, ℕ, Some, None, Option, Ok, Err}
use Rattle.lock.specs.declared.Phase.{Phase}
use Rattle.lock.specs.declared.Phase.TheVariants.{Out, Bidding, Holding, Leaving}
use Rattle.lock.specs.declared.Answer.TheVariants.{Waits, Moves, Enters, Out as Gone}
use Rattle.lock.specs.declared.Kind.{Kind}
use Rattle.lock.specs.declared.Kind.TheVariants.{Bid, Step, Leave}
use Rattle.lock.specs.declared.Call.{Call}
use Rattle.lock.specs.declared.Refusal.{Refusal}
use Rattle.lock.specs.declared.Refusal.TheVariants.{NoPlace, WrongPhase}
use Rattle.lock.specs.Calls.{Reply}
use Rattle.lock.specs.Calls.{bid_by, step_by, leave_by, refusal}
use Rattle.lock.specs.Meaning.{Meaning, Form}
use Rattle.pile.specs.declared.Side.{Side}
use Rattle.pile.specs.declared.Side.TheVariants.{Left, Right}
use Rattle.pile.specs.declared.Pile.{Pile}
use Rattle.pile.specs.Finding.{Meanings, side_of, top_place, found}
use Rattle.pile.specs.PileMeaning.{pile_bids, pile_meaning}

-- a refused call changes nothing
abbrev pub Refuses : {S : Type 0} → Refusal → S → Reply → S → Type 0
Refuses e s r s' = (r ≡ Err e) × (s' ≡ s)

module _ {T L R : Type 0} (top : Form T) (left : Form L) (right : Form R) where
  -- what the parts mean, each by itself
  abbrev pub meanings : Pile T L R → Meanings
  meanings s = record { top = top.meaning s.top; left = left.meaning s.left; right = right.meaning s.right }

  abbrev pub pile_means : Pile T L R → Meaning
  pile_means s = pile_meaning (meanings s)

  -- a pile just made: each part is
  abbrev pub pile_made : Pile T L R → Pile T L R
  pile_made s = record { top = top.made s.top; left = left.made s.left; right = right.made s.right }

  -- a call on the top alone
  abbrev pub TopTakes : Pile T L R → Call → Reply → Pile T L R → Type 0
  TopTakes s c r s' = top.takes s.top c r s'.top × (s'.left ≡ s.left) × (s'.right ≡ s.right)

  -- a call on one side alone
  abbrev pub SideTakes : Side → Pile T L R → Call → Reply → Pile T L R → Type 0
  SideTakes Left s c r s' = left.takes s.left c r s'.left × (s'.top ≡ s.top) × (s'.right ≡ s.right)
  SideTakes Right s c r s' = right.takes s.right c r s'.right × (s'.top ≡ s.top) × (s'.left ≡ s.left)

  -- the bid at place i of side d, where the pile refuses none
  abbrev pub BidAt : Option Refusal → Side → ℕ → Pile T L R → Reply → Pile T L R → Type 0
  BidAt (Some e) d i s r s' = Refuses e s r s'
  BidAt None d i s r s' = SideTakes d s (bid_by i) r s'

  -- after a side's step with the reply q: a box that entered bids at the top, and that is a move;
  -- any other reply is the pile's
  abbrev pub AfterSide : Reply → Side → Pile T L R → Reply → Pile T L R → Type 0
  AfterSide (Ok None) d s r s' = (r ≡ Ok None) × (s' ≡ s)
  AfterSide (Ok (Some Waits)) d s r s' = (r ≡ Ok (Some Waits)) × (s' ≡ s)
  AfterSide (Ok (Some Moves)) d s r s' = (r ≡ Ok (Some Moves)) × (s' ≡ s)
  AfterSide (Ok (Some Enters)) d s r s' = (r ≡ Ok (Some Moves)) × ((q : Reply) × TopTakes s (bid_by (top_place d)) q s')
  AfterSide (Ok (Some Gone)) d s r s' = (r ≡ Ok (Some Gone)) × (s' ≡ s)
  AfterSide (Err e) d s r s' = (r ≡ Err e) × (s' ≡ s)

  -- after the top's step with the reply q: a box that is out there leaves its side, and that is a
  -- move; any other reply is the pile's
  abbrev pub AfterTop : Reply → Side → ℕ → Pile T L R → Reply → Pile T L R → Type 0
  AfterTop (Ok None) d i s r s' = (r ≡ Ok None) × (s' ≡ s)
  AfterTop (Ok (Some Waits)) d i s r s' = (r ≡ Ok (Some Waits)) × (s' ≡ s)
  AfterTop (Ok (Some Moves)) d i s r s' = (r ≡ Ok (Some Moves)) × (s' ≡ s)
  AfterTop (Ok (Some Enters)) d i s r s' = (r ≡ Ok (Some Enters)) × (s' ≡ s)
  AfterTop (Ok (Some Gone)) d i s r s' = (r ≡ Ok (Some Moves)) × ((q : Reply) × SideTakes d s (leave_by i) q s')
  AfterTop (Err e) d i s r s' = (r ≡ Err e) × (s' ≡ s)

  abbrev pub SideSteps : Side → ℕ → Pile T L R → Reply → Pile T L R → Type 0
  SideSteps d i s r s' = (q : Reply) × (u : Pile T L R) × SideTakes d s (step_by i) q u × AfterSide q d u r s'

  abbrev pub TopSteps : Side → ℕ → Pile T L R → Reply → Pile T L R → Type 0
  TopSteps d i s r s' = (q : Reply) × (u : Pile T L R) × TopTakes s (step_by (top_place d)) q u × AfterTop q d i u r s'

  -- the step of a box by its phase at its side
  abbrev pub StepAt : Phase → Side → ℕ → Pile T L R → Reply → Pile T L R → Type 0
  StepAt Out d i s r s' = SideSteps d i s r s'
  StepAt Bidding d i s r s' = SideSteps d i s r s'
  StepAt Holding d i s r s' = TopSteps d i s r s'
  StepAt Leaving d i s r s' = SideSteps d i s r s'

  -- the leave of a box by its phase at its side
  abbrev pub LeaveAt : Phase → Side → Pile T L R → Reply → Pile T L R → Type 0
  LeaveAt Out d s r s' = Refuses WrongPhase s r s'
  LeaveAt Bidding d s r s' = Refuses WrongPhase s r s'
  LeaveAt Holding d s r s' = TopTakes s (leave_by (top_place d)) r s'
  LeaveAt Leaving d s r s' = Refuses WrongPhase s r s'

  -- a call by what the parts mean; a bid is refused as at every lock, by the phase at the side
  abbrev pub CallAt : Meanings → Kind → Side → ℕ → Pile T L R → Reply → Pile T L R → Type 0
  CallAt m Bid d i s r s' = BidAt (refusal (side_of d m).places ((side_of d m).phase i) (pile_bids m) (bid_by i)) d i s r s'
  CallAt m Step d i s r s' = StepAt ((side_of d m).phase i) d i s r s'
  CallAt m Leave d i s r s' = LeaveAt ((side_of d m).phase i) d s r s'

  abbrev pub CallOf : Meanings → Option (Side × ℕ) → Kind → Pile T L R → Reply → Pile T L R → Type 0
  CallOf m None k s r s' = Refuses NoPlace s r s'
  CallOf m (Some b) k s r s' = CallAt m k b.0 b.1 s r s'

  -- each part is found, and does, by what the parts mean before the call
  abbrev pub PileTakes : Pile T L R → Call → Reply → Pile T L R → Type 0
  PileTakes s c r s' = CallOf (meanings s) (found (meanings s) c.place) c.kind s r s'
