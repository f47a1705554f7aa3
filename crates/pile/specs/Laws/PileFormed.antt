-- A pile whose parts are well formed and joined is well formed. Assumes nothing.
use Rattle.std.specs.Prelude.{◌≡◌, ℕ, zero, suc, ◌+◌, ◌<◌, ◌≤◌, ◌⊎◌, ◌++◌, Some, None, Option, ◌≢◌, refl}
use Rattle.std.proofs.Common.{sym, ap, subst, ◌∙◌, inl, inr, ⊎_elim, arith}
use Rattle.std.proofs.lemmas.List.{length-take}
use Rattle.std.proofs.lemmas.Bool.{lt-ltb, le-ltb, cases_lt}
use Rattle.lock.specs.declared.Phase.{Phase}
use Rattle.lock.specs.declared.Phase.TheVariants.{Out, Bidding, Holding, Leaving}
use Rattle.lock.specs.Meaning.{WellFormed, Active, shut, open_after}
use Rattle.pile.specs.declared.Side.{Side}
use Rattle.pile.specs.declared.Side.TheVariants.{Left, Right}
use Rattle.pile.specs.Finding.{Meanings, side_of, top_place, room, found}
use Rattle.pile.specs.PileMeaning.{own_or_top, box_phase, box_mark, of_box, shifted, holder_by, reserve, pile_meaning}
use Rattle.pile.specs.Joined.{Joined}
use Rattle.pile.specs.Laws.Places.{side_with, place_of, all_left, few_all, found_at, found_is, found_none}
use Rattle.pile.specs.Laws.Events.{Formed, own_chosen}

reserve_within : (f : Phase) (n : ℕ) → reserve f n ≤ n
reserve_within Out n = omega arith
reserve_within Bidding n = omega arith
reserve_within Holding n = omega arith
reserve_within Leaving n = omega arith

-- where the pile's box holds, it holds its side and the top
own_or_top_holds : (f g : Phase) → own_or_top f f g ≡ Holding → (f ≡ Holding) × (g ≡ Holding)
own_or_top_holds Out g e = (cc, cc)
own_or_top_holds Bidding g e = (cc, cc)
own_or_top_holds Holding g e = (refl, e)
own_or_top_holds Leaving g e = (cc, cc)

-- a phase that is neither out nor holding is active
stirs : (f : Phase) → (f ≢ Out) → (f ≢ Holding) → Active f
stirs Out out holds = absurd (out refl)
stirs Bidding out holds = tt
stirs Holding out holds = absurd (holds refl)
stirs Leaving out holds = tt

active_not_out : (f : Phase) → Active f → f ≢ Out
active_not_out f active e = subst Active e active

chosen : {X : Type 0} (f : Phase) (x y z : X) → own_or_top f x y ≡ z → (x ≡ z) ⊎ (y ≡ z)
chosen Out x y z e = inl e
chosen Bidding x y z e = inl e
chosen Holding x y z e = inr e
chosen Leaving x y z e = inl e

module _ (m : Meanings) (formed : Formed m) (joined : Joined m) where
  few : m.left.places ≤ 64
  few = (formed.sides Left).few_places

  -- what the pile says of the box at place i of side d
  seen : {X : Type 0} (f : Side → ℕ → X) (x : X) (d : Side) (i : ℕ) → i < room d m → of_box f x (found m (place_of d m i)) ≡ f d i
  seen f x d i inside = ap (of_box f x) (found_at m few d i inside)

  -- a place of a side that is not out is one of the pile
  inside : (d : Side) (i : ℕ) → ((side_of d m).phase i ≢ Out) → i < room d m
  inside d i not_out =
      ⊎_elim (λ (l : i < room d m). l) (λ (l : room d m ≤ i). absurd (not_out (joined.cut_out d i l))) (cases_lt i (room d m))

  shown : (d : Side) (i : ℕ) → (side_of d m).phase i ≡ Holding → (pile_meaning m).phase (place_of d m i) ≡ m.top.phase (top_place d)
  shown d i holds =
      seen (box_phase m) Out d i (inside d i (λ e. clash holds e))
      ∙ ap (λ (f : Phase). own_or_top f ((side_of d m).phase i) (m.top.phase (top_place d))) holds
    where
      clash : {f : Phase} → f ≡ Holding → f ≢ Out
      clash h e = cc

  holder_names : (k : Option ℕ) → m.top.holder ≡ k → (p : ℕ) → holder_by k m ≡ Some p → (pile_meaning m).phase p ≡ Holding
  holder_names None top p e = cc
  holder_names (Some zero) top p e =
      shown Left p ((formed.sides Left).named_holds p e) ∙ formed.top.named_holds 0 top
  holder_names (Some (suc zero)) top p e = go m.right.holder refl e
    where
      go : (o : Option ℕ) → m.right.holder ≡ o → shifted m.left.places (room Right m) o ≡ Some p → (pile_meaning m).phase p ≡ Holding
      go None right e = cc
      go (Some i) right e =
          ⊎_elim
          (λ (l : i < room Right m).
          let t = lt-ltb i (room Right m) l in
          let there = rw t at e in
          let same : m.left.places + i ≡ p = cc in
          ap (pile_meaning m).phase (sym same) ∙ shown Right i ((formed.sides Right).named_holds i right) ∙ formed.top.named_holds 1 top)
          (λ (l : room Right m ≤ i). let t = le-ltb i (room Right m) l in let gone = rw t at e in cc)
          (cases_lt i (room Right m))
  holder_names (Some (suc (suc k))) top p e = cc

  holder_of : (d : Side) (i : ℕ) → i < room d m → m.top.holder ≡ Some (top_place d) → (side_of d m).holder ≡ Some i → (pile_meaning m).holder ≡ Some (place_of d m i)
  holder_of Left i within top side = rw top side
  holder_of Right i within top side = let t = lt-ltb i (room Right m) within in rw (top, side, t) refl

  names_holder : (p : ℕ) (b : Option (Side × ℕ)) → found m p ≡ b → of_box (box_phase m) Out b ≡ Holding → (pile_meaning m).holder ≡ Some p
  names_holder p None there e = cc
  names_holder p (Some b) there e =
      let is = found_is m few p b.0 b.1 there in
      let both = own_or_top_holds ((side_of b.0 m).phase b.1) (m.top.phase (top_place b.0)) e in
      holder_of b.0 b.1 is.0 (formed.top.holding_named (top_place b.0) both.1) ((formed.sides b.0).holding_named b.1 both.0)
      ∙ ap Some (sym is.1)

  delay : (p : ℕ) (b : Option (Side × ℕ)) (e : ℕ) → found m p ≡ b → of_box (box_mark m) shut b ≡ open_after e → e < (pile_meaning m).wait_limit
  delay p None e there mark = cc
  delay p (Some b) e there mark =
      ⊎_elim
      (λ (own : (side_of b.0 m).mark b.1 ≡ open_after e). omega (arith, (formed.sides b.0).short_delay b.1 e own, side_limit b.0))
      (λ (above : m.top.mark (top_place b.0) ≡ open_after e). omega (arith, formed.top.short_delay (top_place b.0) e above))
      (chosen ((side_of b.0 m).phase b.1) ((side_of b.0 m).mark b.1) (m.top.mark (top_place b.0)) (open_after e) mark)
    where
      side_limit : (d : Side) → (side_of d m).wait_limit ≤ (pile_meaning m).wait_limit
      side_limit Left = omega arith
      side_limit Right = omega arith

  -- an active place of the pile that is open
  abbrev SomeOpen : Type 0
  SomeOpen = (q e : ℕ) × Active ((pile_meaning m).phase q) × ((pile_meaning m).mark q ≡ open_after e)

  module _ (free : (p : ℕ) → (pile_meaning m).phase p ≢ Holding) where
    top_place_of : (k : ℕ) → (m.top.phase k ≢ Out) → (d : Side) × (top_place d ≡ k)
    top_place_of k not_out = ⊎_elim (λ (l : k < 2). side_with k l) (λ (l : 2 ≤ k). absurd (not_out (joined.rest_out k l))) (cases_lt k 2)

    -- a place of the top in use stands for a box that holds its side
    box_above : (k : ℕ) → (m.top.phase k ≢ Out) → (d : Side) × (i : ℕ) × (top_place d ≡ k) × ((side_of d m).phase i ≡ Holding)
    box_above k not_out =
        let at = top_place_of k not_out in
        let holder = joined.in_use_held at.0 (λ e. not_out (ap m.top.phase (sym at.1) ∙ e)) in
        (at.0, holder.0, at.1, holder.1)

    top_free : (k : ℕ) → m.top.phase k ≢ Holding
    top_free k holds =
        let box = box_above k (λ (e : m.top.phase k ≡ Out). cc) in
        free (place_of box.0 m box.1) (shown box.0 box.1 box.3 ∙ ap m.top.phase box.2 ∙ holds)

    -- where the top has an active place, the box at an open one of them is open
    open_above : (k : ℕ) → Active (m.top.phase k) → SomeOpen
    open_above k active =
        let found_open = formed.top.some_open top_free k active in
        let q = found_open.0 in
        let box = box_above q (active_not_out (m.top.phase q) found_open.2) in
        let holds = box.3 in
        let within = inside box.0 box.1 (λ (e : (side_of box.0 m).phase box.1 ≡ Out). cc) in (
          place_of box.0 m box.1,
          found_open.1,
          subst Active (sym (shown box.0 box.1 holds ∙ ap m.top.phase box.2)) found_open.2,
          seen (box_mark m) shut box.0 box.1 within
              ∙ ap (λ (f : Phase). own_or_top f ((side_of box.0 m).mark box.1) (m.top.mark (top_place box.0))) holds
              ∙ ap m.top.mark box.2 ∙ found_open.3,
        )

    -- a side with a holder has its place at the top active
    held_above : (d : Side) (i : ℕ) → (side_of d m).phase i ≡ Holding → Active (m.top.phase (top_place d))
    held_above d i holds = stirs (m.top.phase (top_place d)) (joined.held_in_use d i holds) (top_free (top_place d))

    -- a side with an active place and no holder has an open box
    open_below : (d : Side) → ((i : ℕ) → (side_of d m).phase i ≢ Holding) → (i : ℕ) → Active ((side_of d m).phase i) → SomeOpen
    open_below d side_free i active =
        let found_open = (formed.sides d).some_open side_free i active in
        let j = found_open.0 in
        let within = inside d j (active_not_out ((side_of d m).phase j) found_open.2) in (
          place_of d m j,
          found_open.1,
          subst Active (sym (seen (box_phase m) Out d j within ∙ own_chosen ((side_of d m).phase j) ((side_of d m).phase j) (m.top.phase (top_place d)) (side_free j))) found_open.2,
          seen (box_mark m) shut d j within ∙ own_chosen ((side_of d m).phase j) ((side_of d m).mark j) (m.top.mark (top_place d)) (side_free j) ∙ found_open.3,
        )

    some_opens : (b : Option (Side × ℕ)) → Active (of_box (box_phase m) Out b) → SomeOpen
    some_opens None active = absurd active
    some_opens (Some b) active = by_holder (side_of b.0 m).holder refl
      where
        at_side : (f : Phase) → (f ≢ Holding) → Active (own_or_top f f (m.top.phase (top_place b.0))) → Active f
        at_side Out not a = a
        at_side Bidding not a = a
        at_side Holding not a = absurd (not refl)
        at_side Leaving not a = a

        by_holder : (o : Option ℕ) → (side_of b.0 m).holder ≡ o → SomeOpen
        by_holder (Some i) e = open_above (top_place b.0) (held_above b.0 i ((formed.sides b.0).named_holds i e))
        by_holder None e =
            let side_free : (i : ℕ) → (side_of b.0 m).phase i ≡ Holding → ⊥ = λ i h. let named = (formed.sides b.0).holding_named i h in cc in
            open_below b.0 side_free b.1 (at_side ((side_of b.0 m).phase b.1) (side_free b.1) active)

  pub pile_formed : WellFormed (pile_meaning m)
  pile_formed =
      record {
        some_place = omega (arith, all_left m few, (formed.sides Left).some_place);
        few_places = few_all m few;
        few_bids = omega (arith, joined.few_bids);
        few_registers = omega (arith, length-take 4096 (m.top.registers ++ (m.left.registers ++ m.right.registers)));
        within_limit =
            omega (arith, formed.top.within_limit, (formed.sides Left).within_limit, (formed.sides Right).within_limit, reserve_within (m.top.phase 0) m.left.call_limit, reserve_within (m.top.phase 1) m.right.call_limit);
        out_beyond = λ p l. ap (of_box (box_phase m) Out) (found_none m few p l);
        named_holds = λ p e. holder_names m.top.holder refl p e;
        holding_named = λ p e. names_holder p (found m p) refl e;
        short_delay = λ p e mark. delay p (found m p) e refl mark;
        some_open = λ free p active. some_opens free (found m p) active;
      }
