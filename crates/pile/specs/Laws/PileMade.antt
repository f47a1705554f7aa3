-- A pile of parts just made is one just made, and its parts are joined. Assumes nothing.
use Rattle.std.specs.Prelude.{◌≡◌, ℕ, ◌-◌, ◌<◌, ◌≤◌, length, Some, None, Option, refl}
use Rattle.std.proofs.Common.{sym, ap, ◌∙◌, ⊎_elim, arith}
use Rattle.std.proofs.lemmas.Bool.{cases_lt}
use Rattle.lock.specs.declared.Phase.{Phase}
use Rattle.lock.specs.declared.Phase.TheVariants.{Out}
use Rattle.lock.specs.Meaning.{Fresh, register_answer}
use Rattle.lock.proofs.Totals.{total_none}
use Rattle.pile.specs.declared.Side.{Side}
use Rattle.pile.specs.declared.Side.TheVariants.{Left, Right}
use Rattle.pile.specs.Finding.{Meanings, side_of, top_place, found}
use Rattle.pile.specs.PileMeaning.{own_or_top, box_phase, of_box, pile_meaning}
use Rattle.pile.specs.Joined.{bids_now, bidders, Joined}
use Rattle.pile.specs.Laws.Registers.{none_past_limit, one_of_top, one_of_left, one_of_right}

module _ (m : Meanings) (top : Fresh m.top) (sides : (d : Side) → Fresh (side_of d m)) where
  nobody_bids : (d : Side) → bidders d m ≡ 0
  nobody_bids d = total_none (λ i. bids_now ((side_of d m).phase i)) (side_of d m).places (λ i. ap bids_now ((sides d).all_out i))

  pub made_joined : Joined m
  made_joined =
      record {
        held_in_use = λ d i holds out. let is = (sides d).all_out i in cc;
        in_use_held = λ d used. absurd (used (top.all_out (top_place d)));
        rest_out = λ k two. top.all_out k;
        top_behind = omega (arith, top.no_bids, nobody_bids Left, nobody_bids Right);
        few_bids = omega (arith, (sides Left).no_bids, (sides Right).no_bids);
        cut_out = λ d i past. (sides d).all_out i;
      }

  boxes_out : (b : Option (Side × ℕ)) → of_box (box_phase m) Out b ≡ Out
  boxes_out None = refl
  boxes_out (Some b) =
      ap (λ (f : Phase). own_or_top f f (m.top.phase (top_place b.0))) ((sides b.0).all_out b.1)

  zeros : (k v : ℕ) → register_answer (pile_meaning m) k ≡ Some v → v ≡ 0
  zeros k v e =
      ⊎_elim
      (λ (l : k < 4096).
      ⊎_elim
      (λ (h : k < length m.top.registers). top.registers_zero k v (sym (one_of_top m k l h) ∙ e))
      (λ (h : length m.top.registers ≤ k).
      let j = k - length m.top.registers in
      ⊎_elim
      (λ (n : j < length m.left.registers). (sides Left).registers_zero j v (sym (one_of_left m k l j (omega arith) n) ∙ e))
      (λ (n : length m.left.registers ≤ j). (sides Right).registers_zero (j - length m.left.registers) v (sym (one_of_right m k l (j - length m.left.registers) (omega arith)) ∙ e))
      (cases_lt j (length m.left.registers)))
      (cases_lt k (length m.top.registers)))
      (λ (past : 4096 ≤ k). let none = none_past_limit m k past in cc)
      (cases_lt k 4096)

  pub made_fresh : Fresh (pile_meaning m)
  made_fresh =
      record {
        all_out = λ p. boxes_out (found m p);
        no_bids = omega (arith, (sides Left).no_bids, (sides Right).no_bids);
        registers_zero = zeros;
      }
