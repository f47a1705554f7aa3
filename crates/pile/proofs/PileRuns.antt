-- A pile of locks of which each call has one outcome has one outcome of each call. Assumes nothing.
use Rattle.std.proofs.Common.{◌≡◌, ℕ, Some, None, Option, Ok, Err, ap, ◌∙◌}
use Rattle.lock.specs.declared.Phase.{Phase}
use Rattle.lock.specs.declared.Phase.TheVariants.{Out, Bidding, Holding, Leaving}
use Rattle.lock.specs.declared.Answer.TheVariants.{Waits, Moves, Enters, Out as Gone}
use Rattle.lock.specs.declared.Kind.{Kind}
use Rattle.lock.specs.declared.Kind.TheVariants.{Bid, Step, Leave}
use Rattle.lock.specs.declared.Call.{Call}
use Rattle.lock.specs.declared.Refusal.{Refusal}
use Rattle.lock.specs.declared.Refusal.TheVariants.{NoPlace, WrongPhase}
use Rattle.lock.specs.Calls.{Reply, bid_by, step_by, leave_by, refusal}
use Rattle.lock.specs.Meaning.{Form}
use Rattle.pile.specs.declared.Side.{Side}
use Rattle.pile.specs.declared.Side.TheVariants.{Left, Right}
use Rattle.pile.specs.declared.Pile.{Pile}
use Rattle.pile.specs.Finding.{Meanings, side_of, top_place, found}
use Rattle.pile.specs.PileMeaning.{pile_bids}
use Rattle.pile.specs.PileCalls.{meanings, TopTakes, SideTakes, BidAt, AfterSide, AfterTop, StepAt, LeaveAt, CallAt, CallOf, PileTakes}
use Rattle.lock.proofs.Runs.{Ran, Runs}

module _ {T L R : Type 0} (top_run : T → Call → Ran T) (left_run : L → Call → Ran L) (right_run : R → Call → Ran R) where
  abbrev on_top : Pile T L R → Call → Ran (Pile T L R)
  on_top s c = record { reply = (top_run s.top c).reply; after = record { top = (top_run s.top c).after; left = s.left; right = s.right } }

  abbrev on_side : Side → Pile T L R → Call → Ran (Pile T L R)
  on_side Left s c = record { reply = (left_run s.left c).reply; after = record { top = s.top; left = (left_run s.left c).after; right = s.right } }
  on_side Right s c = record { reply = (right_run s.right c).reply; after = record { top = s.top; left = s.left; right = (right_run s.right c).after } }

  abbrev then_top : Side → Ran (Pile T L R) → Reply → Ran (Pile T L R)
  then_top d ran (Ok None) = ran
  then_top d ran (Ok (Some Waits)) = ran
  then_top d ran (Ok (Some Moves)) = ran
  then_top d ran (Ok (Some Enters)) = record { reply = Ok (Some Moves); after = (on_top ran.after (bid_by (top_place d))).after }
  then_top d ran (Ok (Some Gone)) = ran
  then_top d ran (Err e) = ran

  abbrev then_side : Side → ℕ → Ran (Pile T L R) → Reply → Ran (Pile T L R)
  then_side d i ran (Ok None) = ran
  then_side d i ran (Ok (Some Waits)) = ran
  then_side d i ran (Ok (Some Moves)) = ran
  then_side d i ran (Ok (Some Enters)) = ran
  then_side d i ran (Ok (Some Gone)) = record { reply = Ok (Some Moves); after = (on_side d ran.after (leave_by i)).after }
  then_side d i ran (Err e) = ran

  abbrev run_bid : Option Refusal → Side → ℕ → Pile T L R → Ran (Pile T L R)
  run_bid (Some e) d i s = record { reply = Err e; after = s }
  run_bid None d i s = on_side d s (bid_by i)

  abbrev side_steps : Side → ℕ → Pile T L R → Ran (Pile T L R)
  side_steps d i s = then_top d (on_side d s (step_by i)) (on_side d s (step_by i)).reply

  abbrev top_steps : Side → ℕ → Pile T L R → Ran (Pile T L R)
  top_steps d i s = then_side d i (on_top s (step_by (top_place d))) (on_top s (step_by (top_place d))).reply

  abbrev run_step : Phase → Side → ℕ → Pile T L R → Ran (Pile T L R)
  run_step Out d i s = side_steps d i s
  run_step Bidding d i s = side_steps d i s
  run_step Holding d i s = top_steps d i s
  run_step Leaving d i s = side_steps d i s

  abbrev run_leave : Phase → Side → Pile T L R → Ran (Pile T L R)
  run_leave Out d s = record { reply = Err WrongPhase; after = s }
  run_leave Bidding d s = record { reply = Err WrongPhase; after = s }
  run_leave Holding d s = on_top s (leave_by (top_place d))
  run_leave Leaving d s = record { reply = Err WrongPhase; after = s }

  abbrev run_at : Meanings → Kind → Side → ℕ → Pile T L R → Ran (Pile T L R)
  run_at m Bid d i s = run_bid (refusal (side_of d m).places ((side_of d m).phase i) (pile_bids m) (bid_by i)) d i s
  run_at m Step d i s = run_step ((side_of d m).phase i) d i s
  run_at m Leave d i s = run_leave ((side_of d m).phase i) d s

  abbrev run_of : Meanings → Option (Side × ℕ) → Kind → Pile T L R → Ran (Pile T L R)
  run_of m None k s = record { reply = Err NoPlace; after = s }
  run_of m (Some b) k s = run_at m k b.0 b.1 s

  abbrev pub pile_run : (Pile T L R → Meanings) → Pile T L R → Call → Ran (Pile T L R)
  pile_run means s c = run_of (means s) (found (means s) c.place) c.kind s

  module _ (top : Form T) (left : Form L) (right : Form R) (top_runs : Runs top.takes top_run) (left_runs : Runs left.takes left_run) (right_runs : Runs right.takes right_run) where
    top_ran : (s u : Pile T L R) (c : Call) (q : Reply) → TopTakes top left right s c q u → record { reply = q; after = u } ≡ on_top s c
    top_ran s u c q taken =
        let ran = top_runs s.top u.top c q taken.0 in
        λ j. record { reply = (ran j).reply; after = record { top = (ran j).after; left = taken.1 j; right = taken.2 j } }

    side_ran : (d : Side) (s u : Pile T L R) (c : Call) (q : Reply) → SideTakes top left right d s c q u → record { reply = q; after = u } ≡ on_side d s c
    side_ran Left s u c q taken =
        let ran = left_runs s.left u.left c q taken.0 in
        λ j. record { reply = (ran j).reply; after = record { top = taken.1 j; left = (ran j).after; right = taken.2 j } }
    side_ran Right s u c q taken =
        let ran = right_runs s.right u.right c q taken.0 in
        λ j. record { reply = (ran j).reply; after = record { top = taken.1 j; left = taken.2 j; right = (ran j).after } }

    ended : (s s' : Pile T L R) (r q : Reply) → (r ≡ q) × (s' ≡ s) → ◌≡◌ {A = Ran (Pile T L R)} (record { reply = r; after = s' }) (record { reply = q; after = s })
    ended s s' r q end = λ j. record { reply = end.0 j; after = end.1 j }

    after_side_ran : (q : Reply) (d : Side) (u s' : Pile T L R) (r : Reply) → AfterSide top left right q d u r s' → record { reply = r; after = s' } ≡ then_top d (record { reply = q; after = u }) q
    after_side_ran (Ok None) d u s' r after = ended u s' r (Ok None) after
    after_side_ran (Ok (Some Waits)) d u s' r after = ended u s' r (Ok (Some Waits)) after
    after_side_ran (Ok (Some Moves)) d u s' r after = ended u s' r (Ok (Some Moves)) after
    after_side_ran (Ok (Some Enters)) d u s' r after =
        let bid = top_ran u s' (bid_by (top_place d)) after.1.0 after.1.1 in
        λ j. record { reply = after.0 j; after = (bid j).after }
    after_side_ran (Ok (Some Gone)) d u s' r after = ended u s' r (Ok (Some Gone)) after
    after_side_ran (Err e) d u s' r after = ended u s' r (Err e) after

    after_top_ran : (q : Reply) (d : Side) (i : ℕ) (u s' : Pile T L R) (r : Reply) → AfterTop top left right q d i u r s' → record { reply = r; after = s' } ≡ then_side d i (record { reply = q; after = u }) q
    after_top_ran (Ok None) d i u s' r after = ended u s' r (Ok None) after
    after_top_ran (Ok (Some Waits)) d i u s' r after = ended u s' r (Ok (Some Waits)) after
    after_top_ran (Ok (Some Moves)) d i u s' r after = ended u s' r (Ok (Some Moves)) after
    after_top_ran (Ok (Some Enters)) d i u s' r after = ended u s' r (Ok (Some Enters)) after
    after_top_ran (Ok (Some Gone)) d i u s' r after =
        let leave = side_ran d u s' (leave_by i) after.1.0 after.1.1 in
        λ j. record { reply = after.0 j; after = (leave j).after }
    after_top_ran (Err e) d i u s' r after = ended u s' r (Err e) after

    module _ (s s' : Pile T L R) (r : Reply) (d : Side) (i : ℕ) where
      bid_ran : (o : Option Refusal) → BidAt top left right o d i s r s' → record { reply = r; after = s' } ≡ run_bid o d i s
      bid_ran (Some e) taken = ended s s' r (Err e) taken
      bid_ran None taken = side_ran d s s' (bid_by i) r taken

      step_ran : (f : Phase) → StepAt top left right f d i s r s' → record { reply = r; after = s' } ≡ run_step f d i s
      step_ran Out steps = after_side_ran steps.0 d steps.1 s' r steps.3 ∙ ap (λ (x : Ran (Pile T L R)). then_top d x x.reply) (side_ran d s steps.1 (step_by i) steps.0 steps.2)
      step_ran Bidding steps = after_side_ran steps.0 d steps.1 s' r steps.3 ∙ ap (λ (x : Ran (Pile T L R)). then_top d x x.reply) (side_ran d s steps.1 (step_by i) steps.0 steps.2)
      step_ran Holding steps = after_top_ran steps.0 d i steps.1 s' r steps.3 ∙ ap (λ (x : Ran (Pile T L R)). then_side d i x x.reply) (top_ran s steps.1 (step_by (top_place d)) steps.0 steps.2)
      step_ran Leaving steps = after_side_ran steps.0 d steps.1 s' r steps.3 ∙ ap (λ (x : Ran (Pile T L R)). then_top d x x.reply) (side_ran d s steps.1 (step_by i) steps.0 steps.2)

      leave_ran : (f : Phase) → LeaveAt top left right f d s r s' → record { reply = r; after = s' } ≡ run_leave f d s
      leave_ran Out refused = ended s s' r (Err WrongPhase) refused
      leave_ran Bidding refused = ended s s' r (Err WrongPhase) refused
      leave_ran Holding taken = top_ran s s' (leave_by (top_place d)) r taken
      leave_ran Leaving refused = ended s s' r (Err WrongPhase) refused

      call_ran : (m : Meanings) (k : Kind) → CallAt top left right m k d i s r s' → record { reply = r; after = s' } ≡ run_at m k d i s
      call_ran m Bid taken = bid_ran (refusal (side_of d m).places ((side_of d m).phase i) (pile_bids m) (bid_by i)) taken
      call_ran m Step taken = step_ran ((side_of d m).phase i) taken
      call_ran m Leave taken = leave_ran ((side_of d m).phase i) taken

    found_ran : (s s' : Pile T L R) (r : Reply) (m : Meanings) (k : Kind) (b : Option (Side × ℕ)) → CallOf top left right m b k s r s' → record { reply = r; after = s' } ≡ run_of m b k s
    found_ran s s' r m k None refused = ended s s' r (Err NoPlace) refused
    found_ran s s' r m k (Some b) taken = call_ran s s' r b.0 b.1 m k taken

    pub pile_runs : Runs (PileTakes top left right) (pile_run (meanings top left right))
    pile_runs s t c r taken = found_ran s t r (meanings top left right s) c.kind (found (meanings top left right s) c.place) taken
