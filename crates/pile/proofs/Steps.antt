-- A step of a part and what follows it are a step of the pile. Assumes nothing.
use Rattle.std.proofs.Common.{◌≡◌, ℕ, ◌<◌, Some, Option, sym, refl, subst}
use Rattle.std.proofs.lemmas.Bool.{lt-ltb}
use Rattle.lock.specs.declared.Phase.{Phase}
use Rattle.lock.specs.declared.Phase.TheVariants.{Out, Bidding, Holding, Leaving}
use Rattle.lock.specs.declared.Kind.TheVariants.{Step}
use Rattle.lock.specs.Calls.{Reply}
use Rattle.lock.specs.Calls.{step_by}
use Rattle.lock.specs.Meaning.{Meaning, Form, phase_answer}
use Rattle.pile.specs.declared.Side.{Side}
use Rattle.pile.specs.declared.Pile.{Pile}
use Rattle.pile.specs.Finding.{side_of, top_place, found}
use Rattle.pile.specs.PileCalls.{meanings, TopTakes, SideTakes, AfterSide, AfterTop, StepAt, CallOf, PileTakes}

-- the answer on the phase of a place that there is
answer_there : (m : Meaning) (i : ℕ) (o : Option Phase) (f : Phase) → i < m.places → o ≡ phase_answer m i → o ≡ Some f → m.phase i ≡ f
answer_there m i o f l e h = let t = lt-ltb i m.places l in let there : o ≡ Some (m.phase i) = rw t at e in cc

module _ {T L R : Type 0} (top : Form T) (left : Form L) (right : Form R) (s u s' : Pile T L R) (p : ℕ) (b : Option (Side × ℕ)) (d : Side) (i : ℕ) (o : Option Phase) (q r : Reply)
    (value : b ≡ found (meanings top left right s) p) (is : b ≡ Some (d, i)) (within : i < (side_of d (meanings top left right s)).places) (answer : o ≡ phase_answer (side_of d (meanings top left right s)) i) where
  step_taken : (f : Phase) → (side_of d (meanings top left right s)).phase i ≡ f → StepAt top left right f d i s r s' → PileTakes top left right s (step_by p) r s'
  step_taken f phase h =
      let there : found (meanings top left right s) p ≡ Some (d, i) = cc in
      subst (λ (x : Option (Side × ℕ)). CallOf top left right (meanings top left right s) x Step s r s') (sym there)
      (subst (λ (x : Phase). StepAt top left right x d i s r s') (sym phase) h)

  pub steps_at_top : (k : ℕ) → o ≡ Some Holding → k ≡ top_place d → TopTakes top left right s (step_by k) q u → AfterTop top left right q d i u r s' → PileTakes top left right s (step_by p) r s'
  steps_at_top k holding place stepped after =
      step_taken Holding (answer_there (side_of d (meanings top left right s)) i o Holding within answer holding)
      (q, u, subst (λ (x : ℕ). TopTakes top left right s (step_by x) q u) place stepped, after)

  pub steps_at_side : (o ≡ Some Holding → ⊥) → SideTakes top left right d s (step_by i) q u → AfterSide top left right q d u r s' → PileTakes top left right s (step_by p) r s'
  steps_at_side apart stepped after = by ((side_of d (meanings top left right s)).phase i) refl
    where
      by : (f : Phase) → (side_of d (meanings top left right s)).phase i ≡ f → PileTakes top left right s (step_by p) r s'
      by Out e = step_taken Out e (q, u, stepped, after)
      by Bidding e = step_taken Bidding e (q, u, stepped, after)
      by Holding e = absurd (apart (let t = lt-ltb i (side_of d (meanings top left right s)).places within in let there : o ≡ Some ((side_of d (meanings top left right s)).phase i) = rw t at answer in cc))
      by Leaving e = step_taken Leaving e (q, u, stepped, after)
