-- A call on a pile whose parts change as locks do changes the pile as a lock. Assumes nothing.
use Rattle.std.specs.Prelude.{◌≡◌, ℕ, ◌+◌, ◌<◌, false, Some, None, Option, ◌≢◌, refl, Ok, Err}
use Rattle.std.proofs.Common.{sym, ap, subst, ◌∙◌, arith}
use Rattle.std.proofs.lemmas.Bool.{lt-leb, le-leb, leb-false}
use Rattle.lock.specs.declared.Phase.{Phase}
use Rattle.lock.specs.declared.Phase.TheVariants.{Out, Bidding, Holding, Leaving}
use Rattle.lock.specs.declared.Answer.{Answer}
use Rattle.lock.specs.declared.Answer.TheVariants.{Waits, Moves, Enters, Out as Gone}
use Rattle.lock.specs.declared.Kind.{Kind}
use Rattle.lock.specs.declared.Kind.TheVariants.{Bid, Step, Leave}
use Rattle.lock.specs.declared.Call.{Call}
use Rattle.lock.specs.declared.Refusal.{Refusal}
use Rattle.lock.specs.declared.Refusal.TheVariants.{NoPlace, WrongPhase}
use Rattle.lock.specs.Calls.{Reply}
use Rattle.lock.specs.Calls.{bid_by, step_by, leave_by, fits, one_too_many, refusal}
use Rattle.lock.specs.Meaning.{Meaning, Form, WellFormed, SameSize, Stepped, Changes, refusal_of}
use Rattle.lock.proofs.Admitted.{admitted, out_fits, holding_fits}
use Rattle.pile.specs.declared.Side.{Side}
use Rattle.pile.specs.declared.Side.TheVariants.{Left, Right}
use Rattle.pile.specs.declared.Pile.{Pile}
use Rattle.pile.specs.Finding.{Meanings, side_of, top_place, pile_places, found}
use Rattle.pile.specs.PileMeaning.{own_or_top, pile_bids, pile_meaning}
use Rattle.pile.specs.PileCalls.{TopTakes, SideTakes, BidAt, AfterSide, AfterTop, SideSteps, TopSteps, StepAt, LeaveAt, CallAt, CallOf, PileTakes}
use Rattle.pile.specs.Joined.{Joined}
use Rattle.pile.specs.Laws.Places.{other, each_side, none_found}
use Rattle.pile.specs.Laws.Events.{Formed, same_size, bids_split, pile_sizes}
use Rattle.pile.specs.Laws.PileChanges.{call, pile_within, side_within, top_within, phase_is, phase_below, phase_above, refused_alike, not_refused, side_bidden, same_bids_below, side_kept, side_waited, side_moved, side_gone, same_bids_above, top_left, top_kept, top_waited, top_moved, top_entered, climbed, descended}

-- a part changes as a call on a lock may change what it means
abbrev pub Altered : Meaning → Call → Reply → Meaning → Type 0
Altered m c r m' = Changes (refusal_of m c) m c r m' × WellFormed m'

-- what is known of a lock that is no more than what it means
abbrev pub altering : Form Meaning
altering = record { meaning = λ m. m; takes = Altered; made = λ m. m }

-- two piles with the same parts are the same
pub same_pile : {T L R : Type 0} (s u : Pile T L R) → u.top ≡ s.top → u.left ≡ s.left → u.right ≡ s.right → u ≡ s
same_pile s u top left right = λ j. record { top = top j; left = left j; right = right j }

-- what is known of a call at one side of a pile of meanings, whichever side it is
side_taken : (d : Side) (m u : Meanings) (c : Call) (q : Reply) → SideTakes altering altering altering d m c q u → Altered (side_of d m) c q (side_of d u) × (u.top ≡ m.top) × (side_of (other d) u ≡ side_of (other d) m)
side_taken Left m u c q taken = taken
side_taken Right m u c q taken = taken

top_taken : (m u : Meanings) (c : Call) (q : Reply) → TopTakes altering altering altering m c q u → (e : Side) → side_of e u ≡ side_of e m
top_taken m u c q taken Left = taken.1
top_taken m u c q taken Right = taken.2

-- a box that holds its side has its place at the top in use, so it fits a bid no more than its side does
fits_bid_alike : (f g : Phase) → (f ≡ Holding → g ≢ Out) → fits Bid (own_or_top f f g) ≡ fits Bid f
fits_bid_alike Out g used = refl
fits_bid_alike Bidding g used = refl
fits_bid_alike Leaving g used = refl
fits_bid_alike Holding Out used = absurd (used refl refl)
fits_bid_alike Holding Bidding used = refl
fits_bid_alike Holding Holding used = refl
fits_bid_alike Holding Leaving used = refl

-- what a call makes of a pile: the meaning changes as that of a lock, and the parts stay joined
abbrev Done : Option Refusal → Meanings → Kind → ℕ → Reply → Meanings → Type 0
Done o m k p r m' = Changes o (pile_meaning m) (call k p) r (pile_meaning m') × Joined m'

refused_done : (m m' : Meanings) (k : Kind) (p : ℕ) (e : Refusal) (r : Reply) → Joined m → r ≡ Err e → m' ≡ m → Done (Some e) m k p r m'
refused_done m m' k p e r joined reply same = ((reply, ap pile_meaning same), subst Joined (sym same) joined)

module _ (m : Meanings) (formed : Formed m) (joined : Joined m) (d : Side) (i p : ℕ) (there : found m p ≡ Some (d, i)) where
  side_sizes_of : (u : Meanings) → SameSize (side_of d m) (side_of d u) → u.top ≡ m.top → side_of (other d) u ≡ side_of (other d) m → SameSize (pile_meaning m) (pile_meaning u)
  side_sizes_of u size top rest =
      pile_sizes m u (same_size m.top u.top top)
      (each_side (λ e. SameSize (side_of e m) (side_of e u)) d size (same_size (side_of (other d) m) (side_of (other d) u) rest))

  top_sizes_of : (u : Meanings) → SameSize m.top u.top → ((e : Side) → side_of e u ≡ side_of e m) → SameSize (pile_meaning m) (pile_meaning u)
  top_sizes_of u size sides = pile_sizes m u size (λ e. same_size (side_of e m) (side_of e u) (sides e))

  same_side : (u : Meanings) → side_of d u ≡ side_of d m → u.top ≡ m.top → side_of (other d) u ≡ side_of (other d) m → u ≡ m
  same_side u side top rest =
      let sides = each_side (λ e. side_of e u ≡ side_of e m) d side rest in
      same_pile m u top (sides Left) (sides Right)

  abbrev bid_refusal : Option Refusal
  bid_refusal = refusal (side_of d m).places ((side_of d m).phase i) (pile_bids m) (bid_by i)

  bid_refused_alike : refusal_of (pile_meaning m) (bid_by p) ≡ bid_refusal
  bid_refused_alike =
      refused_alike Bid (pile_places m) (side_of d m).places p i (pile_bids m) (pile_bids m) ((pile_meaning m).phase p) ((side_of d m).phase i)
      (pile_within m formed joined d i p there) (side_within m formed joined d i p there)
      (ap (fits Bid) (phase_is m formed joined d i p there) ∙ fits_bid_alike ((side_of d m).phase i) (m.top.phase (top_place d)) (joined.held_in_use d i)) refl

  bid_done : (r : Reply) (m' : Meanings) (o : Option Refusal) → bid_refusal ≡ o → BidAt altering altering altering o d i m r m' → Done o m Bid p r m'
  bid_done r m' (Some e) is refused = refused_done m m' Bid p e r joined refused.0 refused.1
  bid_done r m' None is taken =
      let ok = admitted (side_of d m).places ((side_of d m).phase i) (pile_bids m) (bid_by i) is in
      let parts = side_taken d m m' (bid_by i) r taken in
      let less : (side_of d m).bids + (side_of (other d) m).bids < 1000000 = omega (arith, leb-false 1000000 (pile_bids m) ok.room, bids_split m d joined) in
      let accepted = not_refused Bid (side_of d m).places i (side_of d m).bids ((side_of d m).phase i) ok.placed ok.fit (lt-leb 1000000 (side_of d m).bids (omega (arith, less))) in
      let changed : Changes None (side_of d m) (bid_by i) r (side_of d m') = subst (λ (x : Option Refusal). Changes x (side_of d m) (bid_by i) r (side_of d m')) accepted parts.0.0 in
      let both = side_bidden m formed joined d i p there m' parts.1 parts.2 changed.1 (out_fits ((side_of d m).phase i) ok.fit) less r changed.0 in
      ((both.0, side_sizes_of m' changed.1 parts.1 parts.2), both.1)

  -- the step of a box that does not hold its side

  below_alike : ((side_of d m).phase i ≢ Holding) → refusal_of (pile_meaning m) (step_by p) ≡ refusal_of (side_of d m) (step_by i)
  below_alike below =
      refused_alike Step (pile_places m) (side_of d m).places p i (pile_bids m) (side_of d m).bids ((pile_meaning m).phase p) ((side_of d m).phase i)
      (pile_within m formed joined d i p there) (side_within m formed joined d i p there)
      (ap (fits Step) (phase_below m formed joined d i p there below)) refl

  module _ (u : Meanings) (top : u.top ≡ m.top) (rest : side_of (other d) u ≡ side_of (other d) m) (formed' : WellFormed (side_of d u)) where
    side_replied : (r : Reply) (m' : Meanings) (a : Answer) → (side_of d u).bids ≡ (side_of d m).bids → SameSize (side_of d m) (side_of d u) → (r ≡ Ok (Some a)) × (m' ≡ u) → Stepped (pile_meaning m) p a (pile_meaning u) → Joined u → Done None m Step p r m'
    side_replied r m' a bids size after stepped kept =
        subst (λ (x : Meanings). Done None m Step p r x) (sym after.1)
        (((a, after.0, stepped, same_bids_below m formed joined d i p there u top rest size bids kept), side_sizes_of u size top rest), kept)

    side_answered : (r : Reply) (m' : Meanings) (a : Answer) → Stepped (side_of d m) i a (side_of d u) → (side_of d u).bids ≡ (side_of d m).bids → SameSize (side_of d m) (side_of d u) → AfterSide altering altering altering (Ok (Some a)) d u r m' → Done None m Step p r m'
    side_answered r m' Waits waited bids size after =
        side_replied r m' Waits bids size after (side_waited m formed joined d i p there u top rest size bids waited) (side_kept m formed joined d i p there u top rest size bids waited.phases)
    side_answered r m' Moves moved bids size after =
        side_replied r m' Moves bids size after (side_moved m formed joined d i p there u top rest size bids moved) (side_kept m formed joined d i p there u top rest size bids moved.phases)
    side_answered r m' Gone gone bids size after =
        let out = side_gone m formed joined d i p there u top rest size bids gone in
        side_replied r m' Gone bids size after out.0 out.1
    side_answered r m' Enters entered bids size after =
        let q = after.1.0 in
        let bid = after.1.1 in
        let sides = top_taken u m' (bid_by (top_place d)) q bid in
        let changed = subst (λ (x : Meaning). Changes (refusal_of x (bid_by (top_place d))) x (bid_by (top_place d)) q m'.top) top bid.0.0 in
        let rest' = sides (other d) ∙ rest in
        let bids' : (side_of d m').bids ≡ (side_of d m).bids = ap (λ (x : Meaning). x.bids) (sides d) ∙ bids in
        let climb =
        climbed m formed joined d i p there m' rest'
        (subst (λ (x : Meaning). SameSize (side_of d m) x) (sym (sides d)) size)
        (subst WellFormed (sym (sides d)) formed')
        bids'
        (subst (λ (x : Meaning). Stepped (side_of d m) i Enters x) (sym (sides d)) entered)
        q changed
        in
        (((Moves, after.0, climb.moved, climb.bids), climb.size), climb.joined)

  side_done : (q r : Reply) (u m' : Meanings) → SideTakes altering altering altering d m (step_by i) q u → AfterSide altering altering altering q d u r m' → (o : Option Refusal) → Changes o (side_of d m) (step_by i) q (side_of d u) → Done o m Step p r m'
  side_done q r u m' taken after (Some e) changed =
      let parts = side_taken d m u (step_by i) q taken in
      let refused = subst (λ (x : Reply). AfterSide altering altering altering x d u r m') changed.0 after in
      refused_done m m' Step p e r joined refused.0 (refused.1 ∙ same_side u changed.1 parts.1 parts.2)
  side_done q r u m' taken after None changed =
      let parts = side_taken d m u (step_by i) q taken in
      let step = changed.0 in
      side_answered u parts.1 parts.2 parts.0.1 r m' step.0 step.2 step.3 changed.1 (subst (λ (x : Reply). AfterSide altering altering altering x d u r m') step.1 after)

  -- the calls of a box that holds its side

  above_alike : (k : Kind) → ((b b' : ℕ) → one_too_many k b ≡ one_too_many k b') → (side_of d m).phase i ≡ Holding → refusal_of (pile_meaning m) (call k p) ≡ refusal_of m.top (call k (top_place d))
  above_alike k never holds =
      refused_alike k (pile_places m) m.top.places p (top_place d) (pile_bids m) m.top.bids ((pile_meaning m).phase p) (m.top.phase (top_place d))
      (pile_within m formed joined d i p there) (top_within m formed joined d i p there)
      (ap (fits k) (phase_above m formed joined d i p there holds)) (never (pile_bids m) m.top.bids)

  module _ (u : Meanings) (sides : (e : Side) → side_of e u ≡ side_of e m) (holds : (side_of d m).phase i ≡ Holding) where
    top_replied : (r : Reply) (m' : Meanings) (a : Answer) → SameSize m.top u.top → (r ≡ Ok (Some a)) × (m' ≡ u) → Stepped (pile_meaning m) p a (pile_meaning u) → Joined u → Done None m Step p r m'
    top_replied r m' a size after stepped kept =
        subst (λ (x : Meanings). Done None m Step p r x) (sym after.1)
        (((a, after.0, stepped, same_bids_above m formed joined d i p there u sides size holds kept), top_sizes_of u size sides), kept)

    top_answered : (r : Reply) (m' : Meanings) (a : Answer) → Stepped m.top (top_place d) a u.top → u.top.bids ≡ m.top.bids → SameSize m.top u.top → AfterTop altering altering altering (Ok (Some a)) d i u r m' → Done None m Step p r m'
    top_answered r m' Waits waited bids size after =
        top_replied r m' Waits size after (top_waited m formed joined d i p there u sides size holds bids waited) (top_kept m formed joined d i p there u sides size holds bids waited.phases)
    top_answered r m' Moves moved bids size after =
        top_replied r m' Moves size after (top_moved m formed joined d i p there u sides size holds bids moved) (top_kept m formed joined d i p there u sides size holds bids moved.phases)
    top_answered r m' Enters entered bids size after =
        let in_both = top_entered m formed joined d i p there u sides size holds bids entered in
        top_replied r m' Enters size after in_both.0 in_both.1
    top_answered r m' Gone gone bids size after =
        let q = after.1.0 in
        let parts = side_taken d u m' (leave_by i) q after.1.1 in
        let changed = subst (λ (x : Meaning). Changes (refusal_of x (leave_by i)) x (leave_by i) q (side_of d m')) (sides d) parts.0.0 in
        let rest : side_of (other d) m' ≡ side_of (other d) m = parts.2 ∙ sides (other d) in
        let descent =
        descended m formed joined d i p there m' rest
        (subst (λ (x : Meaning). SameSize m.top x) (sym parts.1) size)
        (ap (λ (x : Meaning). x.bids) parts.1 ∙ bids)
        holds
        (subst (λ (x : Meaning). Stepped m.top (top_place d) Gone x) (sym parts.1) gone)
        q changed
        in
        (((Moves, after.0, descent.moved, descent.bids), descent.size), descent.joined)

  top_done : (side_of d m).phase i ≡ Holding → (q r : Reply) (u m' : Meanings) → TopTakes altering altering altering m (step_by (top_place d)) q u → AfterTop altering altering altering q d i u r m' → (o : Option Refusal) → Changes o m.top (step_by (top_place d)) q u.top → Done o m Step p r m'
  top_done holds q r u m' taken after (Some e) changed =
      let refused = subst (λ (x : Reply). AfterTop altering altering altering x d i u r m') changed.0 after in
      refused_done m m' Step p e r joined refused.0 (refused.1 ∙ same_pile m u changed.1 taken.1 taken.2)
  top_done holds q r u m' taken after None changed =
      let step = changed.0 in
      top_answered u (top_taken m u (step_by (top_place d)) q taken) holds r m' step.0 step.2 step.3 changed.1 (subst (λ (x : Reply). AfterTop altering altering altering x d i u r m') step.1 after)

  leave_done : (side_of d m).phase i ≡ Holding → (r : Reply) (m' : Meanings) → TopTakes altering altering altering m (leave_by (top_place d)) r m' → (o : Option Refusal) → refusal_of m.top (leave_by (top_place d)) ≡ o → Changes o m.top (leave_by (top_place d)) r m'.top → Done o m Leave p r m'
  leave_done holds r m' taken (Some e) is changed = refused_done m m' Leave p e r joined changed.0 (same_pile m m' changed.1 taken.1 taken.2)
  leave_done holds r m' taken None is changed =
      let sides = top_taken m m' (leave_by (top_place d)) r taken in
      let ok = admitted m.top.places (m.top.phase (top_place d)) m.top.bids (leave_by (top_place d)) is in
      let both = top_left m formed joined d i p there m' sides changed.1 holds (holding_fits (m.top.phase (top_place d)) ok.fit) r changed.0 in
      ((both.0, top_sizes_of m' changed.1 sides), both.1)

  leave_refused : ((side_of d m).phase i ≢ Holding) → fits Leave ((side_of d m).phase i) ≡ false → refusal_of (pile_meaning m) (leave_by p) ≡ Some WrongPhase
  leave_refused below unfit =
      let here = lt-leb (pile_places m) p (pile_within m formed joined d i p there) in
      let unfit_here = ap (fits Leave) (phase_below m formed joined d i p there below) ∙ unfit in
      rw (here, unfit_here) refl

  abbrev Outcome : Kind → Reply → Meanings → Type 0
  Outcome k r m' = Done (refusal_of (pile_meaning m) (call k p)) m k p r m'

  at_refusal : (k : Kind) (r : Reply) (m' : Meanings) (o : Option Refusal) → refusal_of (pile_meaning m) (call k p) ≡ o → Done o m k p r m' → Outcome k r m'
  at_refusal k r m' o is done = subst (λ (x : Option Refusal). Done x m k p r m') (sym is) done

  side_outcome : (r : Reply) (m' : Meanings) → ((side_of d m).phase i ≢ Holding) → SideSteps altering altering altering d i m r m' → Outcome Step r m'
  side_outcome r m' below steps =
      at_refusal Step r m' (refusal_of (side_of d m) (step_by i)) (below_alike below)
      (side_done steps.0 r steps.1 m' steps.2 steps.3 (refusal_of (side_of d m) (step_by i)) (side_taken d m steps.1 (step_by i) steps.0 steps.2).0.0)

  top_outcome : (r : Reply) (m' : Meanings) → (side_of d m).phase i ≡ Holding → TopSteps altering altering altering d i m r m' → Outcome Step r m'
  top_outcome r m' holds steps =
      at_refusal Step r m' (refusal_of m.top (step_by (top_place d))) (above_alike Step (λ b b'. refl) holds)
      (top_done holds steps.0 r steps.1 m' steps.2 steps.3 (refusal_of m.top (step_by (top_place d))) steps.2.0.0)

  wrong_phase : (r : Reply) (m' : Meanings) → ((side_of d m).phase i ≢ Holding) → fits Leave ((side_of d m).phase i) ≡ false → (r ≡ Err WrongPhase) × (m' ≡ m) → Outcome Leave r m'
  wrong_phase r m' below unfit refused = at_refusal Leave r m' (Some WrongPhase) (leave_refused below unfit) (refused_done m m' Leave p WrongPhase r joined refused.0 refused.1)

  step_outcome : (r : Reply) (m' : Meanings) (f : Phase) → (side_of d m).phase i ≡ f → StepAt altering altering altering f d i m r m' → Outcome Step r m'
  step_outcome r m' Out is steps = side_outcome r m' (λ (h : (side_of d m).phase i ≡ Holding). cc) steps
  step_outcome r m' Bidding is steps = side_outcome r m' (λ (h : (side_of d m).phase i ≡ Holding). cc) steps
  step_outcome r m' Holding is steps = top_outcome r m' is steps
  step_outcome r m' Leaving is steps = side_outcome r m' (λ (h : (side_of d m).phase i ≡ Holding). cc) steps

  leave_outcome : (r : Reply) (m' : Meanings) (f : Phase) → (side_of d m).phase i ≡ f → LeaveAt altering altering altering f d m r m' → Outcome Leave r m'
  leave_outcome r m' Out is refused = wrong_phase r m' (λ (h : (side_of d m).phase i ≡ Holding). cc) (ap (fits Leave) is) refused
  leave_outcome r m' Bidding is refused = wrong_phase r m' (λ (h : (side_of d m).phase i ≡ Holding). cc) (ap (fits Leave) is) refused
  leave_outcome r m' Holding is taken =
      at_refusal Leave r m' (refusal_of m.top (leave_by (top_place d))) (above_alike Leave (λ b b'. refl) is)
      (leave_done is r m' taken (refusal_of m.top (leave_by (top_place d))) refl taken.0.0)
  leave_outcome r m' Leaving is refused = wrong_phase r m' (λ (h : (side_of d m).phase i ≡ Holding). cc) (ap (fits Leave) is) refused

  outcome_at : (k : Kind) (r : Reply) (m' : Meanings) → CallAt altering altering altering m k d i m r m' → Outcome k r m'
  outcome_at Bid r m' taken = at_refusal Bid r m' bid_refusal bid_refused_alike (bid_done r m' bid_refusal refl taken)
  outcome_at Step r m' taken = step_outcome r m' ((side_of d m).phase i) refl taken
  outcome_at Leave r m' taken = leave_outcome r m' ((side_of d m).phase i) refl taken

module _ (m m' : Meanings) (formed : Formed m) (joined : Joined m) (c : Call) (r : Reply) where
  outcome_of : (b : Option (Side × ℕ)) → found m c.place ≡ b → CallOf altering altering altering m b c.kind m r m' → Done (refusal_of (pile_meaning m) c) m c.kind c.place r m'
  outcome_of None is refused =
      let past = le-leb (pile_places m) c.place (none_found m (formed.sides Left).few_places c.place is) in
      rw past (refused_done m m' c.kind c.place NoPlace r joined refused.0 refused.1)
  outcome_of (Some b) is taken = outcome_at m formed joined b.0 b.1 c.place is c.kind r m' taken

  pub pile_outcome : PileTakes altering altering altering m c r m' → Changes (refusal_of (pile_meaning m) c) (pile_meaning m) c r (pile_meaning m') × Joined m'
  pile_outcome taken = outcome_of (found m c.place) refl taken
