-- Calls on a lock, what they return, and which of them are refused. Assumes nothing.
use Rattle.std.specs.Prelude.{ℕ, Bool, true, false, cond, Some, None, Ok, Err, Option, Result, nat_le}
use Rattle.lock.specs.declared.Phase.{Phase}
use Rattle.lock.specs.declared.Phase.TheVariants.{Out, Bidding, Holding, Leaving}
use Rattle.lock.specs.declared.Answer.{Answer}
use Rattle.lock.specs.declared.Kind.{Kind}
use Rattle.lock.specs.declared.Kind.TheVariants.{Bid, Step, Leave}
use Rattle.lock.specs.declared.Call.{Call}
use Rattle.lock.specs.declared.Refusal.{Refusal}
use Rattle.lock.specs.declared.Refusal.TheVariants.{NoPlace, WrongPhase, BidsSpent}

-- what a call returned: the answer of an accepted step, none of an accepted bid or leave, or the refusal
abbrev pub Reply : Type 0
Reply = Result (Option Answer) Refusal

abbrev pub bid_by : ℕ → Call
bid_by p = record { kind = Bid; place = p }

abbrev pub step_by : ℕ → Call
step_by p = record { kind = Step; place = p }

abbrev pub leave_by : ℕ → Call
leave_by p = record { kind = Leave; place = p }

-- the reply in what a bid or a leave returns
abbrev pub taken_or : Result Unit Refusal → Reply
taken_or (Ok a) = Ok None
taken_or (Err e) = Err e

-- the reply in what a step returns
abbrev pub answered_or : Result Answer Refusal → Reply
answered_or (Ok a) = Ok (Some a)
answered_or (Err e) = Err e

-- whether a call fits the phase of its place
abbrev pub fits : Kind → Phase → Bool
fits Bid Out = true
fits Bid Bidding = false
fits Bid Holding = false
fits Bid Leaving = false
fits Step Out = false
fits Step Bidding = true
fits Step Holding = false
fits Step Leaving = true
fits Leave Out = false
fits Leave Bidding = false
fits Leave Holding = true
fits Leave Leaving = false

-- whether a call asks for one more bid than the 1,000,000 that a lock takes
abbrev pub one_too_many : Kind → ℕ → Bool
one_too_many Bid b = nat_le 1000000 b
one_too_many Step b = false
one_too_many Leave b = false

-- which refusal a call gets for a place that there is, if any: f its phase, b bids taken
abbrev pub refusal_there : Kind → Phase → ℕ → Option Refusal
refusal_there k f b = cond (fits k f) (cond (one_too_many k b) (Some BidsSpent) None) (Some WrongPhase)

abbrev pub passed_unless : Option Refusal → Result Unit Refusal
passed_unless (Some e) = Err e
passed_unless None = Ok tt

-- what the tests of a call give, in their order: by the phase of its place, absent where there is no
-- such place, and the bids taken
abbrev pub admission : Kind → Option Phase → ℕ → Result Unit Refusal
admission k None b = Err NoPlace
admission k (Some f) b = passed_unless (refusal_there k f b)

-- which refusal a call gets, if any: n places, phase f of the call's place, b bids taken
abbrev pub refusal : ℕ → Phase → ℕ → Call → Option Refusal
refusal n f b c = cond (nat_le n c.place) (Some NoPlace) (refusal_there c.kind f b)
