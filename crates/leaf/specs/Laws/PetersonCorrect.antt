-- Peterson's lines meet the obligations of a lock, so that the lock keeps the meaning of one. Assumes nothing.
use Rattle.std.specs.Prelude.{◌≡◌, ℕ, zero, suc, ◌+◌, ◌-◌, ◌<◌, ◌≤◌, true, false, ◌⊎◌, List, None, Option, ◌==◌, ◌≢◌, nat_eq, slice_index, refl}
use Rattle.std.proofs.Common.{sym, ap, ◌∙◌, inl, inr, ⊎_elim, arith}
use Rattle.std.proofs.lemmas.Bool.{cases_Bool, cases_eq, true≢false}
use Rattle.std.proofs.lemmas.Bool.Decides.{nat_tests}
use Rattle.lock.specs.declared.Phase.TheVariants.{Out as IsOut, Holding as IsHolding}
use Rattle.lock.specs.declared.Answer.TheVariants.{Waits}
use Rattle.lock.specs.Meaning.{shut, open_after, Active, Keeps}
use Rattle.leaf.specs.declared.peterson.Line.{Line}
use Rattle.leaf.specs.declared.peterson.Line.TheVariants.{Out, One, Two, Three, Four, Holding, Leaving}
use Rattle.leaf.specs.declared.peterson.BoxRecord.{BoxRecord}
use Rattle.leaf.specs.Boards.{Board, Action, value, mark_within, box_at, Blank}
use Rattle.leaf.specs.PetersonLines.{line_phase, at, reads, acts, left, peterson, peterson_board, peterson_made, peterson_form, PetersonSound, flag, contends, line_of, register_of, Rivals, Invariant}
use Rattle.leaf.specs.Laws.Obligations.{stored, Within, Change, Fitting, Correct, acting}
use Rattle.leaf.specs.Laws.BoardKeeps.{keeps_by_board, blank_made}

abbrev cell : List ℕ → ℕ → ℕ
cell rs k = slice_index rs k

-- what a box at a line with these registers does
abbrev doing : ℕ → Line → List ℕ → Action BoxRecord
doing p l rs = acts p l (value rs (reads p l))

contender_flag : (l : Line) → contends l ≡ true → flag l ≡ 1
contender_flag l e = grind arith

swapped : (p q : ℕ) (l l' : Line) (f : ℕ → ℕ) → Rivals p q l l' f → Rivals q p l' l f
swapped p q l l' f h =
    record { own_flag = h.rival_flag; rival_flag = h.own_flag; turn = h.turn; own_order = h.rival_order; rival_order = h.own_order }

-- a step of box p keeps what holds of it and its rival
step_kept : (p q : ℕ) (l l' : Line) (rs : List ℕ) (g : ℕ → ℕ) → p + q ≡ 1 → Rivals p q l l' (cell rs) → Active (line_phase l) → ((k : ℕ) → g k ≡ stored (doing p l rs).writes (cell rs) k) → Rivals p q (doing p l rs).next.line l' g
step_kept p q Out l' rs g sides h active s = absurd active
step_kept p q One l' rs g sides h active s = let own = s p in let rival = s q in let turn = s 2 in grind (arith, nat_tests)
step_kept p q Two l' rs g sides h active s = let own = s p in let rival = s q in let turn = s 2 in grind (arith, nat_tests)
step_kept p q Three l' rs g sides h active s = let own = s p in let rival = s q in let turn = s 2 in grind (arith, nat_tests)
step_kept p q Four l' rs g sides h active s = let own = s p in let rival = s q in let turn = s 2 in let flagged = contender_flag l' in grind (arith, nat_tests)
step_kept p q Holding l' rs g sides h active s = absurd active
step_kept p q Leaving l' rs g sides h active s = let own = s p in let rival = s q in let turn = s 2 in grind (arith, nat_tests)

bid_kept : (p q : ℕ) (l l' : Line) (f g : ℕ → ℕ) → Rivals p q l l' f → line_phase l ≡ IsOut → ((k : ℕ) → g k ≡ f k) → Rivals p q One l' g
bid_kept p q l l' f g h e s = let own = s p in let rival = s q in let turn = s 2 in grind (arith, nat_tests)

leave_kept : (p q : ℕ) (l l' : Line) (f g : ℕ → ℕ) → Rivals p q l l' f → line_phase l ≡ IsHolding → ((k : ℕ) → g k ≡ f k) → Rivals p q Leaving l' g
leave_kept p q l l' f g h e s = let own = s p in let rival = s q in let turn = s 2 in grind (arith, nat_tests)

line_fits : (p : ℕ) (l : Line) (v : ℕ) → Active (line_phase l) → Fitting peterson p (at l) (acts p l v).answer (acts p l v).next (acts p l v).writes
line_fits p Out v active = absurd active
line_fits p One v active = (refl, omega arith)
line_fits p Two v active = (refl, omega arith)
line_fits p Three v active =
    ⊎_elim (λ (t : nat_eq v p ≡ true). rw t (refl, refl)) (λ (t : nat_eq v p ≡ false). rw t (refl, refl, refl, refl)) (cases_Bool (v == p))
line_fits p Four v active =
    ⊎_elim (λ (t : nat_eq v 0 ≡ true). rw t (refl, refl)) (λ (t : nat_eq v 0 ≡ false). rw t (refl, refl, refl, refl)) (cases_Bool (v == 0))
line_fits p Holding v active = absurd active
line_fits p Leaving v active = (refl, refl, omega arith)

line_within : (p : ℕ) (l : Line) (v : ℕ) → p < 2 → Within 3 (acts p l v).writes
line_within p Out v h = tt
line_within p One v h = omega arith
line_within p Two v h = omega arith
line_within p Three v h = grind (arith, nat_tests)
line_within p Four v h = grind (arith, nat_tests)
line_within p Holding v h = tt
line_within p Leaving v h = omega arith

limit : (l l' : Line) (f : ℕ → ℕ) → Rivals 0 1 l l' f → left l' + (left l + 0) ≤ 8
limit l l' f h = grind arith

-- a box that is shut and waits stays shut, since lines 3 and 4 take turns
stays_shut : (p : ℕ) (l : Line) (rs : List ℕ) → (doing p l rs).answer ≡ Waits → mark_within peterson 2 rs p (at l) ≡ shut → mark_within peterson 2 rs p (doing p l rs).next ≡ shut
stays_shut p l rs waits e = grind (arith, nat_tests)

-- a box with its steps to make, or its rival, is open
abbrev Opens : ℕ → Line → List ℕ → Type 0
Opens p l rs = Active (line_phase l) × ((d : ℕ) × (mark_within peterson 2 rs p (at l) ≡ open_after d))

-- a box that contends is open if P is its number
turn_opens : (p : ℕ) (l : Line) (rs : List ℕ) → Active (line_phase l) → cell rs 2 ≡ p → Opens p l rs
turn_opens p Out rs active turn = absurd active
turn_opens p One rs active turn = (tt, (0, refl))
turn_opens p Two rs active turn = (tt, (0, refl))
turn_opens p Three rs active turn = (tt, (0, grind (arith, nat_tests)))
turn_opens p Four rs active turn =
    ⊎_elim
    (λ (e : cell rs (1 - p) ≡ 0). (tt, (0, grind (arith, nat_tests))))
    (λ (e : cell rs (1 - p) ≡ 0 → ⊥). (tt, (1, grind (arith, nat_tests))))
    (cases_eq (cell rs (1 - p)) 0)
turn_opens p Holding rs active turn = absurd active
turn_opens p Leaving rs active turn = (tt, (0, refl))

-- a box whose rival has not set its W is open
alone_opens : (p : ℕ) (l : Line) (rs : List ℕ) → Active (line_phase l) → cell rs (1 - p) ≡ 0 → Opens p l rs
alone_opens p Out rs active free = absurd active
alone_opens p One rs active free = (tt, (0, refl))
alone_opens p Two rs active free = (tt, (0, refl))
alone_opens p Three rs active free =
    ⊎_elim
    (λ (e : cell rs 2 ≡ p). (tt, (0, grind (arith, nat_tests))))
    (λ (e : cell rs 2 ≡ p → ⊥). (tt, (1, grind (arith, nat_tests))))
    (cases_eq (cell rs 2) p)
alone_opens p Four rs active free = (tt, (0, grind (arith, nat_tests)))
alone_opens p Holding rs active free = absurd active
alone_opens p Leaving rs active free = (tt, (0, refl))

-- of two rivals of which neither holds, one that is active leads to an open one
rivals_open : (p q : ℕ) (l l' : Line) (rs : List ℕ) → p + q ≡ 1 → Rivals p q l l' (cell rs) → (line_phase l' ≢ IsHolding) → Active (line_phase l) → Opens p l rs ⊎ Opens q l' rs
rivals_open p q l l' rs sides h free active =
    ⊎_elim
    (λ (e : cell rs q ≡ 0). let same : q ≡ 1 - p = omega arith in inl (alone_opens p l rs active (rw (← same) e)))
    (λ (ne : cell rs q ≡ 0 → ⊥).
    ⊎_elim
    (λ (e : cell rs 2 ≡ p). inl (turn_opens p l rs active e))
    (λ (away : cell rs 2 ≡ p → ⊥). inr (turn_opens q l' rs (flagged_active l' (λ e. ne (h.rival_flag ∙ e)) free) (omega (arith, h.turn, sides, away))))
    (cases_eq (cell rs 2) p))
    (cases_eq (cell rs q) 0)
  where
    flagged_active : (l : Line) → (flag l ≢ 0) → (line_phase l ≢ IsHolding) → Active (line_phase l)
    flagged_active Out up not_in = absurd (up refl)
    flagged_active One up not_in = tt
    flagged_active Two up not_in = tt
    flagged_active Three up not_in = tt
    flagged_active Four up not_in = tt
    flagged_active Holding up not_in = absurd (not_in refl)
    flagged_active Leaving up not_in = tt

-- the invariant seen from either box
module _ (b : Board BoxRecord) where
  from_box : (p : ℕ) → p < 2 → Invariant b → Rivals p (1 - p) (line_of b p) (line_of b (1 - p)) (register_of b)
  from_box zero l h = h
  from_box (suc zero) l h = swapped 0 1 (line_of b 0) (line_of b 1) (register_of b) h
  from_box (suc (suc p)) l h = absurd (omega (arith, l))

  to_both : (p : ℕ) → p < 2 → Rivals p (1 - p) (line_of b p) (line_of b (1 - p)) (register_of b) → Invariant b
  to_both zero l h = h
  to_both (suc zero) l h = swapped 1 0 (line_of b 1) (line_of b 0) (register_of b) h
  to_both (suc (suc p)) l h = absurd (omega (arith, l))

-- after a change of box p the other box is where it was
rival_same : (b b' : Board BoxRecord) (p : ℕ) (x : BoxRecord) (w : Option (ℕ × ℕ)) → p < 2 → Change peterson b p x w b' → Rivals p (1 - p) x.line (line_of b (1 - p)) (register_of b') → Invariant b'
rival_same b b' p x w placed change h =
    let own : line_of b' p ≡ x.line = ap (λ (y : BoxRecord). y.line) change.own in
    let rival : line_of b' (1 - p) ≡ line_of b (1 - p) = ap (λ (y : BoxRecord). y.line) (change.others (1 - p) (λ (e : 1 - p ≡ p). omega (arith, e, placed))) in
    to_both b' p placed (rw (own, rival) h)

blank_rivals : (b : Board BoxRecord) → Blank peterson b → Invariant b
blank_rivals b blank =
    let zeros = blank.all_zero in
    let out : (p : ℕ) → line_of b p ≡ Out = λ p. ap (λ (y : BoxRecord). y.line) (blank.all_out p) in
    rw (out 0, out 1) (record { own_flag = zeros 0; rival_flag = zeros 1; turn = omega (arith, zeros 2); own_order = λ i c. absurd (true≢false (sym i)); rival_order = λ i c. absurd (true≢false (sym i)) })

-- two boxes inside would each have its own number in P
one_holds : (b : Board BoxRecord) (p q : ℕ) → Invariant b → p < 2 → q < 2 → line_phase (line_of b p) ≡ IsHolding → line_phase (line_of b q) ≡ IsHolding → p ≡ q
one_holds b p q h lp lq hp hq =
    ⊎_elim
    (λ (e : p ≡ q). e)
    (λ (ne : p ≡ q → ⊥).
    let rival : q ≡ 1 - p = omega (arith, lp, lq, ne) in
    let view = from_box b p lp h in
    let hq' : line_phase (line_of b (1 - p)) ≡ IsHolding = rw rival at hq in
    apart (line_of b p) (line_of b (1 - p)) view hp hq')
    (cases_eq p q)
  where
    apart : (l l' : Line) → Rivals p (1 - p) l l' (register_of b) → line_phase l ≡ IsHolding → line_phase l' ≡ IsHolding → p ≡ q
    apart l l' r e e' = grind arith

some_opens : (b : Board BoxRecord) → Invariant b → ((p : ℕ) → p < 2 → line_phase (line_of b p) ≢ IsHolding) → (p : ℕ) → p < 2 → Active (line_phase (line_of b p)) → (q d : ℕ) × (q < 2) × Active (line_phase (line_of b q)) × (mark_within peterson 2 b.registers q (box_at peterson b q) ≡ open_after d)
some_opens b h free p placed active =
    ⊎_elim
    (λ (o : Opens p (line_of b p) b.registers). (p, o.1.0, placed, o.0, o.1.1))
    (λ (o : Opens (1 - p) (line_of b (1 - p)) b.registers). (1 - p, o.1.0, omega arith, o.0, o.1.1))
    (rivals_open p (1 - p) (line_of b p) (line_of b (1 - p)) b.registers (omega arith) (from_box b p placed h) (free (1 - p) (omega arith)) active)

pub peterson_correct : Correct peterson Invariant
peterson_correct =
    record {
      some_place = omega arith;
      few_places = omega arith;
      few_registers = omega arith;
      out_phase = refl;
      bidding_phase = refl;
      leaving_phase = refl;
      bid_costs = λ p x e. bid_cost x.line e;
      leave_costs = λ p x e. leave_cost x.line e;
      blank_sound = λ b blank. blank_rivals b blank;
      fitting = λ b p h placed active. line_fits p (line_of b p) (value b.registers (reads p (line_of b p))) active;
      within = λ b p h placed active. line_within p (line_of b p) (value b.registers (reads p (line_of b p))) placed;
      after_bid = λ b b' p h placed e change bids.
          rival_same b b' p (at One) None placed change (bid_kept p (1 - p) (line_of b p) (line_of b (1 - p)) (register_of b) (register_of b') (from_box b p placed h) e change.registers);
      after_leave = λ b b' p h placed e change bids.
          rival_same b b' p (at Leaving) None placed change (leave_kept p (1 - p) (line_of b p) (line_of b (1 - p)) (register_of b) (register_of b') (from_box b p placed h) e change.registers);
      after_step = λ b b' p h placed active change bids.
          rival_same b b' p (acting peterson b p).next (acting peterson b p).writes placed change (step_kept p (1 - p) (line_of b p) (line_of b (1 - p)) b.registers (register_of b') (omega arith) (from_box b p placed h) active change.registers);
      one_holder = λ b p q h lp lq hp hq. one_holds b p q h lp lq hp hq;
      within_limit = λ b h. limit (line_of b 0) (line_of b 1) (register_of b) h;
      shut_stays = λ b p h placed is e. stays_shut p (line_of b p) b.registers is e;
      some_open = λ b h free p placed active. some_opens b h free p placed active;
    }
  where
    bid_cost : (l : Line) → line_phase l ≡ IsOut → left One < left l
    bid_cost l e = grind arith

    leave_cost : (l : Line) → line_phase l ≡ IsHolding → left Leaving < left l
    leave_cost l e = grind arith

pub peterson_keeps : Keeps peterson_form PetersonSound
peterson_keeps =
    keeps_by_board peterson Invariant peterson_correct peterson_board
    (λ b. record { boxes = b.boxes; registers = b.registers; bids = b.bids })
    (λ s. refl) (λ s. peterson_made) (λ s. blank_made peterson 2 3 (omega arith) (omega arith))
