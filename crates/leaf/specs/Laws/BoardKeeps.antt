-- An algorithm that meets its obligations keeps the meaning of a lock. Assumes nothing.
use Rattle.std.specs.Prelude.{◌≡◌, ℕ, zero, suc, ◌+◌, ◌<◌, ◌≤◌, Bool, true, false, cond, List, length, take, replicate, Some, None, Option, ◌==◌, ◌≢◌, nat_lt, slice_index, slice_index_or, slice_set, refl, Ok, Err}
use Rattle.std.proofs.Common.{sym, ap, subst, ◌∙◌, ⊎_elim, length-set, arith}
use Rattle.std.proofs.lemmas.Bool.{lt-ltb, le-ltb, leb-false, cases_lt, cases_eq, eq-eqb, ne_eqb}
use Rattle.std.proofs.lemmas.List.{get_or-set_same, get_or-set_other, length-take, get_or-take, length-replicate}
use Rattle.std.proofs.lemmas.Option.{slice_get-get_or, slice_get_past}
use Rattle.std.specs.List.{slice_get}
use Rattle.lock.specs.declared.Phase.{Phase}
use Rattle.lock.specs.declared.Phase.TheVariants.{Out, Holding}
use Rattle.lock.specs.declared.Answer.{Answer}
use Rattle.lock.specs.declared.Answer.TheVariants.{Waits, Moves, Enters, Out as Gone}
use Rattle.lock.specs.declared.Kind.{Kind}
use Rattle.lock.specs.declared.Kind.TheVariants.{Bid, Step, Leave}
use Rattle.lock.specs.declared.Call.{Call}
use Rattle.lock.specs.declared.Refusal.{Refusal}
use Rattle.lock.specs.Meaning.{Meaning, Mark, shut, open_after, Active, WellFormed, SameSize, Turns, SamePhases, MarkWaited, Stepped, Accepted, Changes, Fresh, Keeps, refusal_of}
use Rattle.leaf.specs.Boards.{Board, Algorithm, Outcome, written, mark_by, mark_within, action, box_at, phase_at, meaning_of, accepted, outcome_by, outcome, Tidy, Blank}
use Rattle.lock.proofs.Totals.{total_changed}
use Rattle.lock.proofs.Admitted.{Admitted, admitted, out_fits, holding_fits, active_fits}
use Rattle.leaf.specs.Laws.Obligations.{stored, Within, Change, Fitting, Correct, acting}
use Rattle.leaf.specs.Laws.FirstHolding.{first_holds, holds_first}

stored_set : (rs : List ℕ) (k j v : ℕ) → j < length rs → slice_index (slice_set rs j v) k ≡ cond (k == j) v (slice_index rs k)
stored_set rs k j v l =
    ⊎_elim
    (λ (e : k ≡ j). let t = eq-eqb k j e in rw (t, e) (get_or-set_same rs j v 0 l))
    (λ (ne : k ≡ j → ⊥). let t = ne_eqb k j ne in rw t (get_or-set_other rs j k v 0 ne))
    (cases_eq k j)

stored_written : (rs : List ℕ) (w : Option (ℕ × ℕ)) (n k : ℕ) → n ≤ length rs → Within n w → slice_index (written rs w) k ≡ stored w (λ j. slice_index rs j) k
stored_written rs (Some w) n k l h = stored_set rs k w.0 w.1 (omega (arith, l, h))
stored_written rs None n k l h = refl

length-written : (rs : List ℕ) (w : Option (ℕ × ℕ)) → length (written rs w) ≡ length rs
length-written rs (Some w) = length-set rs w.0 w.1
length-written rs None = refl

module _ {X : Type 0} (A : Algorithm X) (rs : List ℕ) (p : ℕ) where
  -- fewer waits are left than steps were looked at
  mark_short : (n : ℕ) (x : X) (d : ℕ) → mark_within A n rs p x ≡ open_after d → d < n
  mark_short zero x d e = cc
  mark_short (suc n) x d e = go (action A rs p x).answer (mark_within A n rs p (action A rs p x).next) (mark_short n (action A rs p x).next) e
    where
      go : (a : Answer) (m : Mark) → ((c : ℕ) → m ≡ open_after c → c < n) → mark_by a m ≡ open_after d → d < suc n
      go Waits shut h e = cc
      go Waits (open_after c) h e = let same : suc c ≡ d = cc in omega (arith, h c refl)
      go Moves m h e = let same : 0 ≡ d = cc in omega arith
      go Enters m h e = let same : 0 ≡ d = cc in omega arith
      go Gone m h e = let same : 0 ≡ d = cc in omega arith

  -- a place that is open by n steps is open by one more, with the same delay
  mark_longer : (n : ℕ) (x : X) (d : ℕ) → mark_within A n rs p x ≡ open_after d → mark_within A (suc n) rs p x ≡ open_after d
  mark_longer zero x d e = cc
  mark_longer (suc n) x d e =
      go (action A rs p x).answer (mark_within A n rs p (action A rs p x).next) (mark_within A (suc n) rs p (action A rs p x).next) (mark_longer n (action A rs p x).next) e
    where
      go : (a : Answer) (m m' : Mark) → ((c : ℕ) → m ≡ open_after c → m' ≡ open_after c) → mark_by a m ≡ open_after d → mark_by a m' ≡ open_after d
      go Waits shut m' h e = cc
      go Waits (open_after c) m' h e = let is = h c refl in rw is e
      go Moves m m' h e = e
      go Enters m m' h e = e
      go Gone m m' h e = e

  -- a wait lowers the delay of an open place by one, and where a shut place stays shut, that is all
  mark_waited : (n : ℕ) (x : X) → (action A rs p x).answer ≡ Waits → (mark_within A n rs p x ≡ shut → mark_within A n rs p (action A rs p x).next ≡ shut) → MarkWaited (mark_within A n rs p x) (mark_within A n rs p (action A rs p x).next)
  mark_waited zero x e stays = refl
  mark_waited (suc n) x e stays =
      go (action A rs p x).answer (mark_within A n rs p (action A rs p x).next) e (mark_longer n (action A rs p x).next) stays
    where
      go : (a : Answer) (m : Mark) → a ≡ Waits → ((d : ℕ) → m ≡ open_after d → mark_within A (suc n) rs p (action A rs p x).next ≡ open_after d) → (mark_by a m ≡ shut → mark_within A (suc n) rs p (action A rs p x).next ≡ shut) → MarkWaited (mark_by a m) (mark_within A (suc n) rs p (action A rs p x).next)
      go Waits shut e longer stays = stays refl
      go Waits (open_after d) e longer stays = (omega arith, longer d refl)
      go Moves m e longer stays = cc
      go Enters m e longer stays = cc
      go Gone m e longer stays = cc

module _ {X : Type 0} (A : Algorithm X) (b b' : Board X) (p : ℕ) (x : X) (w : Option (ℕ × ℕ)) (placed : p < A.places) where
  phase_placed : (c : Board X) → phase_at A c p ≡ A.phase (box_at A c p)
  phase_placed c = let t = lt-ltb p A.places placed in rw t refl

  turns : Change A b p x w b' → Turns (meaning_of A b) p (A.phase x) (meaning_of A b')
  turns change =
      record {
        own = phase_placed b' ∙ ap A.phase change.own;
        others = λ q ne. ap (λ (y : X). cond (nat_lt q A.places) (A.phase y) Out) (change.others q ne);
      }

  same_phases : Change A b p x w b' → A.phase x ≡ A.phase (box_at A b p) → SamePhases (meaning_of A b) (meaning_of A b')
  same_phases change same q =
      ⊎_elim
      (λ (e : q ≡ p). ap (phase_at A b') e ∙ (turns change).own ∙ same ∙ sym (phase_placed b) ∙ ap (phase_at A b) (sym e))
      (λ (ne : q ≡ p → ⊥). (turns change).others q ne)
      (cases_eq q p)

  credit_changed : Change A b p x w b' → (meaning_of A b').credit + A.left p (box_at A b p) ≡ (meaning_of A b).credit + A.left p x
  credit_changed change =
      total_changed (λ q. A.left q (box_at A b q)) (λ q. A.left q (box_at A b' q)) A.places p placed (λ q ne. ap (A.left q) (change.others q ne))
      ∙ ap (λ (y : X). (meaning_of A b).credit + A.left p y) change.own

-- the board that an accepted call leaves differs from the one before at its own place and write alone
change_made : {X : Type 0} (A : Algorithm X) (b : Board X) (p : ℕ) (x : X) (w : Option (ℕ × ℕ)) (n : ℕ) → Tidy A b → p < A.places → Within A.register_count w → Change A b p x w (record { boxes = slice_set b.boxes p x; registers = written b.registers w; bids = n })
change_made A b p x w n tidy placed within =
    record {
      own = get_or-set_same b.boxes p x A.out (omega (arith, tidy.all_boxes));
      others = λ q ne. get_or-set_other b.boxes p q x A.out ne;
      registers = λ k. stored_written b.registers w A.register_count k tidy.all_registers within;
    }

tidy_made : {X : Type 0} (A : Algorithm X) (b : Board X) (p : ℕ) (x : X) (w : Option (ℕ × ℕ)) (n : ℕ) → Tidy A b → n ≤ 1000000 → Tidy A (record { boxes = slice_set b.boxes p x; registers = written b.registers w; bids = n })
tidy_made A b p x w n tidy few =
    record {
      all_boxes = omega (arith, tidy.all_boxes, length-set b.boxes p x);
      all_registers = omega (arith, tidy.all_registers, length-written b.registers w);
      few_bids = few;
    }

get_or_blank : {Y : Type 0} (n k : ℕ) (y : Y) → slice_index_or (replicate n y) k y ≡ y
get_or_blank zero k y = refl
get_or_blank (suc n) zero y = refl
get_or_blank (suc n) (suc k) y = get_or_blank n k y

-- a board of n boxes that are out and m registers at 0 is just made
pub blank_made : {X : Type 0} (A : Algorithm X) (n m : ℕ) → A.places ≤ n → A.register_count ≤ m → Blank A (record { boxes = replicate n A.out; registers = replicate m 0; bids = 0 })
blank_made A n m enough room =
    record {
      tidy = record { all_boxes = omega (arith, enough, length-replicate n A.out); all_registers = omega (arith, room, length-replicate {A = ℕ} m 0); few_bids = omega arith };
      no_bids = refl;
      all_out = λ p. get_or_blank n p A.out;
      all_zero = λ k. get_or_blank m k 0;
    }

module _ {X : Type 0} (A : Algorithm X) (Sound : Board X → Type 0) (correct : Correct A Sound) where
  -- what the lock's own invariant is over a board
  abbrev Kept : Board X → Type 0
  Kept b = Tidy A b × Sound b

  module _ (b : Board X) (kept : Kept b) where
    abbrev m : Meaning
    m = meaning_of A b

    abbrev after : Kind → ℕ → Board X
    after k p = (accepted A k p b).board

    -- the phase that a call must find at its place is that of the place's record
    box_phase : (p : ℕ) (f : Phase) → p < A.places → m.phase p ≡ f → A.phase (box_at A b p) ≡ f
    box_phase p f placed e = sym (phase_placed A b b p (box_at A b p) None placed b) ∙ e

    change_bid : (p : ℕ) → p < A.places → Change A b p A.bidding None (after Bid p)
    change_bid p placed = change_made A b p A.bidding None (b.bids + 1) kept.0 placed tt

    change_leave : (p : ℕ) → p < A.places → Change A b p A.leaving None (after Leave p)
    change_leave p placed = change_made A b p A.leaving None b.bids kept.0 placed tt

    change_step : (p : ℕ) → p < A.places → Active (A.phase (box_at A b p)) → Change A b p (acting A b p).next (acting A b p).writes (after Step p)
    change_step p placed active =
        change_made A b p (acting A b p).next (acting A b p).writes b.bids kept.0 placed (correct.within b p kept.1 placed active)

    bid_accepted : (p : ℕ) → p < A.places → m.phase p ≡ Out → Accepted m Bid p (Ok None) (meaning_of A (after Bid p))
    bid_accepted p placed e =
        let was = box_phase p Out placed e in
        let change = change_bid p placed in
        record {
          reply = refl;
          phases = subst (λ (f : Phase). Turns m p f (meaning_of A (after Bid p))) correct.bidding_phase (turns A b (after Bid p) p A.bidding None placed change);
          registers = refl;
          credit = omega (arith, credit_changed A b (after Bid p) p A.bidding None placed change, correct.bid_costs p (box_at A b p) was);
          more_bids = refl;
        }

    leave_accepted : (p : ℕ) → p < A.places → m.phase p ≡ Holding → Accepted m Leave p (Ok None) (meaning_of A (after Leave p))
    leave_accepted p placed e =
        let was = box_phase p Holding placed e in
        let change = change_leave p placed in
        record {
          reply = refl;
          phases = subst (λ (f : Phase). Turns m p f (meaning_of A (after Leave p))) correct.leaving_phase (turns A b (after Leave p) p A.leaving None placed change);
          registers = refl;
          credit = omega (arith, credit_changed A b (after Leave p) p A.leaving None placed change, correct.leave_costs p (box_at A b p) was);
          more_bids = omega arith;
        }

    module _ (p : ℕ) (placed : p < A.places) (active : Active (A.phase (box_at A b p))) where
      abbrev m' : Meaning
      m' = meaning_of A (after Step p)

      stepped : (a : Answer) → (acting A b p).answer ≡ a → Fitting A p (box_at A b p) a (acting A b p).next (acting A b p).writes → Stepped m p a m'
      stepped Waits is fit =
          let change = change_step p placed active in
          let same_registers : (after Step p).registers ≡ b.registers = ap (written b.registers) fit.2 in
          let marked = mark_waited A b.registers p A.wait_limit (box_at A b p) is (correct.shut_stays b p kept.1 placed is) in
          record {
            bidding = phase_placed A b b p (box_at A b p) None placed b ∙ fit.0;
            phases = same_phases A b (after Step p) p (acting A b p).next (acting A b p).writes placed change (fit.1 ∙ sym fit.0);
            registers = ap (take A.register_count) same_registers;
            credit = omega (arith, credit_changed A b (after Step p) p (acting A b p).next (acting A b p).writes placed change, fit.3);
            own_mark = rw (same_registers, change.own) marked;
            other_marks = λ q ne. rw (same_registers, change.others q ne) refl;
          }
      stepped Moves is fit =
          let change = change_step p placed active in
          record {
            phases = same_phases A b (after Step p) p (acting A b p).next (acting A b p).writes placed change fit.0;
            credit = omega (arith, credit_changed A b (after Step p) p (acting A b p).next (acting A b p).writes placed change, fit.1);
          }
      stepped Enters is fit =
          let change = change_step p placed active in
          record {
            bidding = phase_placed A b b p (box_at A b p) None placed b ∙ fit.0;
            phases = subst (λ (f : Phase). Turns m p f m') fit.1 (turns A b (after Step p) p (acting A b p).next (acting A b p).writes placed change);
          }
      stepped Gone is fit =
          let change = change_step p placed active in
          record {
            leaving = phase_placed A b b p (box_at A b p) None placed b ∙ fit.0;
            phases = subst (λ (f : Phase). Turns m p f m') fit.1 (turns A b (after Step p) p (acting A b p).next (acting A b p).writes placed change);
            credit = omega (arith, credit_changed A b (after Step p) p (acting A b p).next (acting A b p).writes placed change, fit.2);
          }

    accepted_changes : (k : Kind) (p : ℕ) → Admitted A.places (m.phase p) b.bids (record { kind = k; place = p }) → Accepted m k p (accepted A k p b).reply (meaning_of A (after k p))
    accepted_changes Bid p ok = bid_accepted p ok.placed (out_fits (m.phase p) ok.fit)
    accepted_changes Leave p ok = leave_accepted p ok.placed (holding_fits (m.phase p) ok.fit)
    accepted_changes Step p ok =
        let active = subst Active (phase_placed A b b p (box_at A b p) None ok.placed b) (active_fits (m.phase p) ok.fit) in
        ((acting A b p).answer, refl, stepped p ok.placed active (acting A b p).answer refl (correct.fitting b p kept.1 ok.placed active), refl)

    accepted_size : (k : Kind) (p : ℕ) → SameSize m (meaning_of A (after k p))
    accepted_size k p = record { places = refl; wait_limit = refl; call_limit = refl }

    accepted_kept : (k : Kind) (p : ℕ) → Admitted A.places (m.phase p) b.bids (record { kind = k; place = p }) → Kept (after k p)
    accepted_kept Bid p ok = (
      tidy_made A b p A.bidding None (b.bids + 1) kept.0 (omega (arith, leb-false 1000000 b.bids ok.room)),
      correct.after_bid b (after Bid p) p kept.1 ok.placed (box_phase p Out ok.placed (out_fits (m.phase p) ok.fit)) (change_bid p ok.placed) refl,
    )
    accepted_kept Leave p ok = (
      tidy_made A b p A.leaving None b.bids kept.0 kept.0.few_bids,
      correct.after_leave b (after Leave p) p kept.1 ok.placed (box_phase p Holding ok.placed (holding_fits (m.phase p) ok.fit)) (change_leave p ok.placed) refl,
    )
    accepted_kept Step p ok =
        let active = subst Active (phase_placed A b b p (box_at A b p) None ok.placed b) (active_fits (m.phase p) ok.fit) in (
          tidy_made A b p (acting A b p).next (acting A b p).writes b.bids kept.0 kept.0.few_bids,
          correct.after_step b (after Step p) p kept.1 ok.placed active (change_step p ok.placed active) refl,
        )

    outcome_changes : (c : Call) (o : Option Refusal) → refusal_of m c ≡ o → Changes o m c (outcome_by A o c b).reply (meaning_of A (outcome_by A o c b).board)
    outcome_changes c (Some e) is = (refl, refl)
    outcome_changes c None is = (accepted_changes c.kind c.place (admitted A.places (m.phase c.place) b.bids c is), accepted_size c.kind c.place)

    outcome_kept : (c : Call) (o : Option Refusal) → refusal_of m c ≡ o → Kept (outcome_by A o c b).board
    outcome_kept c (Some e) is = kept
    outcome_kept c None is = accepted_kept c.kind c.place (admitted A.places (m.phase c.place) b.bids c is)

    -- the phase of a place is holding only within the algorithm's places, and then its record is
    held : (p : ℕ) → m.phase p ≡ Holding → (p < A.places) × (A.phase (box_at A b p) ≡ Holding)
    held p e =
        ⊎_elim
        (λ (l : p < A.places). (l, box_phase p Holding l e))
        (λ (g : A.places ≤ p). let t = le-ltb p A.places g in let gone : Out ≡ Holding = rw t at e in cc)
        (cases_lt p A.places)

    stirring : (p : ℕ) → Active (m.phase p) → (p < A.places) × Active (A.phase (box_at A b p))
    stirring p active =
        ⊎_elim
        (λ (l : p < A.places). (l, subst Active (phase_placed A b b p (box_at A b p) None l b) active))
        (λ (g : A.places ≤ p). let t = le-ltb p A.places g in absurd (rw t at active))
        (cases_lt p A.places)

    formed : WellFormed m
    formed =
        record {
          some_place = correct.some_place;
          few_places = correct.few_places;
          few_bids = kept.0.few_bids;
          few_registers = omega (arith, correct.few_registers, length-take A.register_count b.registers);
          within_limit = correct.within_limit b kept.1;
          out_beyond = λ p g. let t = le-ltb p A.places g in rw t refl;
          named_holds = λ p e. first_holds m.phase A.places p e;
          holding_named = λ p e.
              holds_first m.phase A.places p
              (λ q h. correct.one_holder b q p kept.1 (held q h).0 (held p e).0 (held q h).1 (held p e).1)
              (held p e).0 e;
          short_delay = λ p d e. mark_short A b.registers p A.wait_limit (box_at A b p) d e;
          some_open = λ free p active.
              let at = stirring p active in
              let found = correct.some_open b kept.1 (λ q l h. free q (phase_placed A b b q (box_at A b q) None l b ∙ h)) p at.0 at.1 in
              (found.0, found.1, subst Active (sym (phase_placed A b b found.0 (box_at A b found.0) None found.2 b)) found.3, found.4);
        }

  blank_kept : (b : Board X) → Blank A b → Kept b
  blank_kept b blank = (blank.tidy, correct.blank_sound b blank)

  register_zero : (rs : List ℕ) (n : ℕ) → ((k : ℕ) → slice_index rs k ≡ 0) → (k v : ℕ) → slice_get (take n rs) k ≡ Some v → v ≡ 0
  register_zero rs n zeros k v e =
      ⊎_elim
      (λ (l : k < length (take n rs)).
      let within : k < n = omega (arith, l, length-take n rs) in
      let found = slice_get-get_or (take n rs) k 0 l in
      let same = get_or-take n rs k 0 within in
      let nought = zeros k in
      cc)
      (λ (g : length (take n rs) ≤ k). let past = slice_get_past (take n rs) k g in cc)
      (cases_lt k (length (take n rs)))

  blank_fresh : (b : Board X) → Blank A b → Fresh (meaning_of A b)
  blank_fresh b blank =
      record {
        all_out = λ p. cond_out (nat_lt p A.places) (A.phase (box_at A b p)) (ap A.phase (blank.all_out p) ∙ correct.out_phase);
        no_bids = blank.no_bids;
        registers_zero = register_zero b.registers A.register_count blank.all_zero;
      }
    where
      cond_out : (t : Bool) (f : Phase) → f ≡ Out → cond t f Out ≡ Out
      cond_out true f e = e
      cond_out false f e = refl

  refused_same : (k : Kind) (p : ℕ) (b : Board X) (e : Refusal) → (accepted A k p b).reply ≢ Err e
  refused_same Bid p b e h = cc
  refused_same Step p b e h = cc
  refused_same Leave p b e h = cc

  outcome_untouched : (b : Board X) (c : Call) (e : Refusal) (o : Option Refusal) → (outcome_by A o c b).reply ≡ Err e → (outcome_by A o c b).board ≡ b
  outcome_untouched b c e (Some f) is = refl
  outcome_untouched b c e None is = absurd (refused_same c.kind c.place b e is)

  -- A lock whose whole state is a board of the algorithm keeps the meaning. `from` makes the lock
  -- of a board, and `made` is the lock as its making leaves it.
  module _ {L : Type 0} (board : L → Board X) (from : Board X → L) (whole : (s : L) → from (board s) ≡ s) (made : L → L) (blank : (s : L) → Blank A (board (made s))) where
    pub keeps_by_board : Keeps (record { meaning = λ s. meaning_of A (board s); takes = λ s c r t. outcome A c (board s) ≡ record { reply = r; board = board t }; made = made }) (λ s. Kept (board s))
    keeps_by_board =
        record {
          made_sound = λ s. blank_kept (board (made s)) (blank s);
          made_fresh = λ s. blank_fresh (board (made s)) (blank s);
          made_sizes = λ s. record { places = refl; wait_limit = refl; call_limit = refl };
          stays_sound = λ s t c r kept is. subst (λ (o : Outcome X). Kept o.board) is (outcome_kept (board s) kept c (refusal_of (meaning_of A (board s)) c) refl);
          well_formed = λ s kept. formed (board s) kept;
          changes = λ s t c r kept is. subst (λ (o : Outcome X). Changes (refusal_of (meaning_of A (board s)) c) (meaning_of A (board s)) c o.reply (meaning_of A o.board)) is (outcome_changes (board s) kept c (refusal_of (meaning_of A (board s)) c) refl);
          untouched = λ s t c e is.
              let same = outcome_untouched (board s) c e (refusal_of (meaning_of A (board s)) c) (ap (λ (o : Outcome X). o.reply) is) in
              sym (whole t) ∙ ap from (sym (ap (λ (o : Outcome X). o.board) is) ∙ same) ∙ whole s;
        }
