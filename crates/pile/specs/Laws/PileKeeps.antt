-- A pile of three locks that keep the meaning of a lock keeps it too. Assumes nothing.
use Rattle.std.specs.Prelude.{◌≡◌, ℕ, Some, None, Option, ◌≢◌, Ok, Err}
use Rattle.std.proofs.Common.{sym, ap, subst, ◌∙◌}
use Rattle.lock.specs.declared.Phase.{Phase}
use Rattle.lock.specs.declared.Phase.TheVariants.{Out, Bidding, Holding, Leaving}
use Rattle.lock.specs.declared.Answer.{Answer}
use Rattle.lock.specs.declared.Answer.TheVariants.{Waits, Moves, Enters, Out as Gone}
use Rattle.lock.specs.declared.Kind.{Kind}
use Rattle.lock.specs.declared.Kind.TheVariants.{Bid, Step, Leave}
use Rattle.lock.specs.declared.Call.{Call}
use Rattle.lock.specs.declared.Refusal.{Refusal}
use Rattle.lock.specs.declared.Refusal.TheVariants.{NoPlace, WrongPhase}
use Rattle.lock.specs.Calls.{Reply}
use Rattle.lock.specs.Calls.{bid_by, step_by, leave_by, refusal}
use Rattle.lock.specs.Meaning.{WellFormed, SameSize, Fresh, Form, Keeps}
use Rattle.pile.specs.declared.Side.{Side}
use Rattle.pile.specs.declared.Side.TheVariants.{Left, Right}
use Rattle.pile.specs.declared.Pile.{Pile}
use Rattle.pile.specs.Finding.{Meanings, side_of, top_place, found}
use Rattle.pile.specs.PileMeaning.{pile_bids}
use Rattle.pile.specs.PileCalls.{meanings, pile_made, TopTakes, SideTakes, BidAt, AfterSide, AfterTop, SideSteps, TopSteps, StepAt, LeaveAt, CallAt, CallOf}
use Rattle.pile.specs.Forms.{piled}
use Rattle.pile.specs.Joined.{PileSound}
use Rattle.pile.specs.Laws.Events.{Formed, pile_sizes}
use Rattle.pile.specs.Laws.PileFormed.{pile_formed}
use Rattle.pile.specs.Laws.PileMade.{made_joined, made_fresh}
use Rattle.pile.specs.Laws.PileOutcomes.{Altered, altering, same_pile, pile_outcome}

-- a call on a sound lock changes what it means as a lock may
altered : {X : Type 0} {F : Form X} {sound : X → Type 0} → Keeps F sound → (s t : X) (c : Call) (r : Reply) → sound s → F.takes s c r t → Altered (F.meaning s) c r (F.meaning t)
altered keeps s t c r so taken = (keeps.changes s t c r so taken, keeps.well_formed t (keeps.stays_sound s t c r so taken))

unlike_taken : {e : Refusal} → ◌≢◌ {A = Reply} (Err e) (Ok None)
unlike_taken is = cc

unlike_answered : {e : Refusal} {a : Answer} → ◌≢◌ {A = Reply} (Err e) (Ok (Some a))
unlike_answered is = cc

module _
    {T L R : Type 0}
    {top_form : Form T} {top_sound : T → Type 0} (top_keeps : Keeps top_form top_sound)
    {left_form : Form L} {left_sound : L → Type 0} (left_keeps : Keeps left_form left_sound)
    {right_form : Form R} {right_sound : R → Type 0} (right_keeps : Keeps right_form right_sound) where
  abbrev means : Pile T L R → Meanings
  means = meanings top_form left_form right_form

  record PartsSound (s : Pile T L R) : Type 0 where
    top : top_sound s.top
    left : left_sound s.left
    right : right_sound s.right

  -- a call on the parts is one on what they mean, and leaves them sound

  side_lifted : (d : Side) (s u : Pile T L R) (c : Call) (q : Reply) → PartsSound s → SideTakes top_form left_form right_form d s c q u → SideTakes altering altering altering d (means s) c q (means u) × PartsSound u
  side_lifted Left s u c q so taken = (
    (altered left_keeps s.left u.left c q so.left taken.0, ap top_form.meaning taken.1, ap right_form.meaning taken.2),
    record { top = subst top_sound (sym taken.1) so.top; left = left_keeps.stays_sound s.left u.left c q so.left taken.0; right = subst right_sound (sym taken.2) so.right },
  )
  side_lifted Right s u c q so taken = (
    (altered right_keeps s.right u.right c q so.right taken.0, ap top_form.meaning taken.1, ap left_form.meaning taken.2),
    record { top = subst top_sound (sym taken.1) so.top; left = subst left_sound (sym taken.2) so.left; right = right_keeps.stays_sound s.right u.right c q so.right taken.0 },
  )

  top_lifted : (s u : Pile T L R) (c : Call) (q : Reply) → PartsSound s → TopTakes top_form left_form right_form s c q u → TopTakes altering altering altering (means s) c q (means u) × PartsSound u
  top_lifted s u c q so taken = (
    (altered top_keeps s.top u.top c q so.top taken.0, ap left_form.meaning taken.1, ap right_form.meaning taken.2),
    record { top = top_keeps.stays_sound s.top u.top c q so.top taken.0; left = subst left_sound (sym taken.1) so.left; right = subst right_sound (sym taken.2) so.right },
  )

  ended : (s s' : Pile T L R) (r q : Reply) → PartsSound s → (r ≡ q) × (s' ≡ s) → ((r ≡ q) × (means s' ≡ means s)) × PartsSound s'
  ended s s' r q so end = ((end.0, ap means end.1), subst PartsSound (sym end.1) so)

  after_side_lifted : (q : Reply) (d : Side) (s s' : Pile T L R) (r : Reply) → PartsSound s → AfterSide top_form left_form right_form q d s r s' → AfterSide altering altering altering q d (means s) r (means s') × PartsSound s'
  after_side_lifted (Ok None) d s s' r so after = ended s s' r (Ok None) so after
  after_side_lifted (Ok (Some Waits)) d s s' r so after = ended s s' r (Ok (Some Waits)) so after
  after_side_lifted (Ok (Some Moves)) d s s' r so after = ended s s' r (Ok (Some Moves)) so after
  after_side_lifted (Ok (Some Enters)) d s s' r so after =
      let bid = top_lifted s s' (bid_by (top_place d)) after.1.0 so after.1.1 in
      ((after.0, (after.1.0, bid.0)), bid.1)
  after_side_lifted (Ok (Some Gone)) d s s' r so after = ended s s' r (Ok (Some Gone)) so after
  after_side_lifted (Err e) d s s' r so after = ended s s' r (Err e) so after

  after_top_lifted : (q : Reply) (d : Side) (i : ℕ) (s s' : Pile T L R) (r : Reply) → PartsSound s → AfterTop top_form left_form right_form q d i s r s' → AfterTop altering altering altering q d i (means s) r (means s') × PartsSound s'
  after_top_lifted (Ok None) d i s s' r so after = ended s s' r (Ok None) so after
  after_top_lifted (Ok (Some Waits)) d i s s' r so after = ended s s' r (Ok (Some Waits)) so after
  after_top_lifted (Ok (Some Moves)) d i s s' r so after = ended s s' r (Ok (Some Moves)) so after
  after_top_lifted (Ok (Some Enters)) d i s s' r so after = ended s s' r (Ok (Some Enters)) so after
  after_top_lifted (Ok (Some Gone)) d i s s' r so after =
      let leave = side_lifted d s s' (leave_by i) after.1.0 so after.1.1 in
      ((after.0, (after.1.0, leave.0)), leave.1)
  after_top_lifted (Err e) d i s s' r so after = ended s s' r (Err e) so after

  module _ (s s' : Pile T L R) (r : Reply) (so : PartsSound s) (d : Side) (i : ℕ) where
    bid_lifted : (o : Option Refusal) → BidAt top_form left_form right_form o d i s r s' → BidAt altering altering altering o d i (means s) r (means s') × PartsSound s'
    bid_lifted (Some e) taken = ended s s' r (Err e) so taken
    bid_lifted None taken = side_lifted d s s' (bid_by i) r so taken

    side_steps_lifted : SideSteps top_form left_form right_form d i s r s' → SideSteps altering altering altering d i (means s) r (means s') × PartsSound s'
    side_steps_lifted steps =
        let step = side_lifted d s steps.1 (step_by i) steps.0 so steps.2 in
        let after = after_side_lifted steps.0 d steps.1 s' r step.1 steps.3 in
        ((steps.0, means steps.1, step.0, after.0), after.1)

    top_steps_lifted : TopSteps top_form left_form right_form d i s r s' → TopSteps altering altering altering d i (means s) r (means s') × PartsSound s'
    top_steps_lifted steps =
        let step = top_lifted s steps.1 (step_by (top_place d)) steps.0 so steps.2 in
        let after = after_top_lifted steps.0 d i steps.1 s' r step.1 steps.3 in
        ((steps.0, means steps.1, step.0, after.0), after.1)

    step_lifted : (f : Phase) → StepAt top_form left_form right_form f d i s r s' → StepAt altering altering altering f d i (means s) r (means s') × PartsSound s'
    step_lifted Out steps = side_steps_lifted steps
    step_lifted Bidding steps = side_steps_lifted steps
    step_lifted Holding steps = top_steps_lifted steps
    step_lifted Leaving steps = side_steps_lifted steps

    leave_lifted : (f : Phase) → LeaveAt top_form left_form right_form f d s r s' → LeaveAt altering altering altering f d (means s) r (means s') × PartsSound s'
    leave_lifted Out refused = ended s s' r (Err WrongPhase) so refused
    leave_lifted Bidding refused = ended s s' r (Err WrongPhase) so refused
    leave_lifted Holding taken = top_lifted s s' (leave_by (top_place d)) r so taken
    leave_lifted Leaving refused = ended s s' r (Err WrongPhase) so refused

    call_lifted : (k : Kind) → CallAt top_form left_form right_form (means s) k d i s r s' → CallAt altering altering altering (means s) k d i (means s) r (means s') × PartsSound s'
    call_lifted Bid taken = bid_lifted (refusal (side_of d (means s)).places ((side_of d (means s)).phase i) (pile_bids (means s)) (bid_by i)) taken
    call_lifted Step taken = step_lifted ((side_of d (means s)).phase i) taken
    call_lifted Leave taken = leave_lifted ((side_of d (means s)).phase i) taken

  lifted : (s s' : Pile T L R) (k : Kind) (r : Reply) → PartsSound s → (b : Option (Side × ℕ)) → CallOf top_form left_form right_form (means s) b k s r s' → CallOf altering altering altering (means s) b k (means s) r (means s') × PartsSound s'
  lifted s s' k r so None refused = ended s s' r (Err NoPlace) so refused
  lifted s s' k r so (Some b) taken = call_lifted s s' r so b.0 b.1 k taken

  -- a refused call changes no part

  side_untouched : (d : Side) (s u : Pile T L R) (c : Call) (e : Refusal) → SideTakes top_form left_form right_form d s c (Err e) u → u ≡ s
  side_untouched Left s u c e taken = same_pile s u taken.1 (left_keeps.untouched s.left u.left c e taken.0) taken.2
  side_untouched Right s u c e taken = same_pile s u taken.1 taken.2 (right_keeps.untouched s.right u.right c e taken.0)

  top_untouched : (s u : Pile T L R) (c : Call) (e : Refusal) → TopTakes top_form left_form right_form s c (Err e) u → u ≡ s
  top_untouched s u c e taken = same_pile s u (top_keeps.untouched s.top u.top c e taken.0) taken.1 taken.2

  module _ (d : Side) (i : ℕ) (s s' : Pile T L R) (e : Refusal) where
    side_steps_untouched : (u : Pile T L R) (q : Reply) → SideTakes top_form left_form right_form d s (step_by i) q u → AfterSide top_form left_form right_form q d u (Err e) s' → s' ≡ s
    side_steps_untouched u (Ok None) taken after = absurd (unlike_taken after.0)
    side_steps_untouched u (Ok (Some Waits)) taken after = absurd (unlike_answered after.0)
    side_steps_untouched u (Ok (Some Moves)) taken after = absurd (unlike_answered after.0)
    side_steps_untouched u (Ok (Some Enters)) taken after = absurd (unlike_answered after.0)
    side_steps_untouched u (Ok (Some Gone)) taken after = absurd (unlike_answered after.0)
    side_steps_untouched u (Err b) taken after = after.1 ∙ side_untouched d s u (step_by i) b taken

    top_steps_untouched : (u : Pile T L R) (q : Reply) → TopTakes top_form left_form right_form s (step_by (top_place d)) q u → AfterTop top_form left_form right_form q d i u (Err e) s' → s' ≡ s
    top_steps_untouched u (Ok None) taken after = absurd (unlike_taken after.0)
    top_steps_untouched u (Ok (Some Waits)) taken after = absurd (unlike_answered after.0)
    top_steps_untouched u (Ok (Some Moves)) taken after = absurd (unlike_answered after.0)
    top_steps_untouched u (Ok (Some Enters)) taken after = absurd (unlike_answered after.0)
    top_steps_untouched u (Ok (Some Gone)) taken after = absurd (unlike_answered after.0)
    top_steps_untouched u (Err b) taken after = after.1 ∙ top_untouched s u (step_by (top_place d)) b taken

    bid_untouched : (o : Option Refusal) → BidAt top_form left_form right_form o d i s (Err e) s' → s' ≡ s
    bid_untouched (Some b) refused = refused.1
    bid_untouched None taken = side_untouched d s s' (bid_by i) e taken

    step_untouched : (f : Phase) → StepAt top_form left_form right_form f d i s (Err e) s' → s' ≡ s
    step_untouched Out steps = side_steps_untouched steps.1 steps.0 steps.2 steps.3
    step_untouched Bidding steps = side_steps_untouched steps.1 steps.0 steps.2 steps.3
    step_untouched Holding steps = top_steps_untouched steps.1 steps.0 steps.2 steps.3
    step_untouched Leaving steps = side_steps_untouched steps.1 steps.0 steps.2 steps.3

    leave_untouched : (f : Phase) → LeaveAt top_form left_form right_form f d s (Err e) s' → s' ≡ s
    leave_untouched Out refused = refused.1
    leave_untouched Bidding refused = refused.1
    leave_untouched Holding taken = top_untouched s s' (leave_by (top_place d)) e taken
    leave_untouched Leaving refused = refused.1

    call_untouched : (k : Kind) → CallAt top_form left_form right_form (means s) k d i s (Err e) s' → s' ≡ s
    call_untouched Bid taken = bid_untouched (refusal (side_of d (means s)).places ((side_of d (means s)).phase i) (pile_bids (means s)) (bid_by i)) taken
    call_untouched Step taken = step_untouched ((side_of d (means s)).phase i) taken
    call_untouched Leave taken = leave_untouched ((side_of d (means s)).phase i) taken

  untouched_at : (s s' : Pile T L R) (k : Kind) (e : Refusal) (b : Option (Side × ℕ)) → CallOf top_form left_form right_form (means s) b k s (Err e) s' → s' ≡ s
  untouched_at s s' k e None refused = refused.1
  untouched_at s s' k e (Some b) taken = call_untouched b.0 b.1 s s' e k taken

  abbrev made : Pile T L R → Pile T L R
  made = pile_made top_form left_form right_form

  abbrev Sound : Pile T L R → Type 0
  Sound = PileSound top_sound left_sound right_sound means

  parts_of : (s : Pile T L R) → Sound s → PartsSound s
  parts_of s so = record { top = so.top; left = so.left; right = so.right }

  parts_formed : (s : Pile T L R) → PartsSound s → Formed (means s)
  parts_formed s so = record { top = top_keeps.well_formed s.top so.top; sides = side_formed }
    where
      side_formed : (d : Side) → WellFormed (side_of d (means s))
      side_formed Left = left_keeps.well_formed s.left so.left
      side_formed Right = right_keeps.well_formed s.right so.right

  sides_fresh : (s : Pile T L R) (d : Side) → Fresh (side_of d (means (made s)))
  sides_fresh s Left = left_keeps.made_fresh s.left
  sides_fresh s Right = right_keeps.made_fresh s.right

  sides_sized : (s : Pile T L R) (d : Side) → SameSize (side_of d (means s)) (side_of d (means (made s)))
  sides_sized s Left = left_keeps.made_sizes s.left
  sides_sized s Right = right_keeps.made_sizes s.right

  pub pile_keeps : Keeps (piled top_form left_form right_form) Sound
  pile_keeps =
      record {
        made_sound = λ s.
            record {
              top = top_keeps.made_sound s.top;
              left = left_keeps.made_sound s.left;
              right = right_keeps.made_sound s.right;
              joined = made_joined (means (made s)) (top_keeps.made_fresh s.top) (sides_fresh s);
            };
        made_fresh = λ s. made_fresh (means (made s)) (top_keeps.made_fresh s.top) (sides_fresh s);
        made_sizes = λ s. pile_sizes (means s) (means (made s)) (top_keeps.made_sizes s.top) (sides_sized s);
        stays_sound = λ s t c r so taken.
            let up = lifted s t c.kind r (parts_of s so) (found (means s) c.place) taken in
            record {
              top = up.1.top;
              left = up.1.left;
              right = up.1.right;
              joined = (pile_outcome (means s) (means t) (parts_formed s (parts_of s so)) so.joined c r up.0).1;
            };
        well_formed = λ s so. pile_formed (means s) (parts_formed s (parts_of s so)) so.joined;
        changes = λ s t c r so taken.
            let up = lifted s t c.kind r (parts_of s so) (found (means s) c.place) taken in
            (pile_outcome (means s) (means t) (parts_formed s (parts_of s so)) so.joined c r up.0).0;
        untouched = λ s t c e taken. untouched_at s t c.kind e (found (means s) c.place) taken;
      }
