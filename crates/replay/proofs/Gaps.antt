-- The longest stretch after one call more is the gap of the longer past. Assumes nothing.
use Rattle.std.proofs.Common.{◌≡◌, ℕ, ◌+◌, ◌≤◌, max, true, false, List, [], ◌∷◌, length, refl, ⊎_elim, arith}
use Rattle.std.proofs.lemmas.Bool.{cases_Bool}
use Rattle.lock.specs.Calls.{Reply}
use Rattle.lock.specs.Pasts.{Event, is_entry, work_of, work, onto_first, stretches}
use Rattle.replay.specs.declared.running.Stretch.{Stretch}
use Rattle.replay.specs.Reports.{gap, most_work}
use Rattle.replay.specs.Running.{length_after, stretched}

abbrev first_work : List (List Event) → ℕ
first_work [] = 0
first_work (s ∷ ss) = work s

-- the stretch that goes on after a past
abbrev pub stretch_of : List Event → Stretch
stretch_of es = record { length = first_work (stretches es); longest = gap es }

length_onto : (e : Event) (ss : List (List Event)) → first_work ss + work_of e.reply ≡ first_work (onto_first e ss)
length_onto e [] = omega arith
length_onto e (s ∷ ss) = omega arith

longest_onto : (e : Event) (ss : List (List Event)) → max (most_work ss) (first_work ss + work_of e.reply) ≡ most_work (onto_first e ss)
longest_onto e [] = grind arith
longest_onto e (s ∷ ss) = joined (work s) (work_of e.reply) (most_work ss)
  where
    joined : (s w m : ℕ) → max (max s m) (s + w) ≡ max (w + s) m
    joined s w m = omega arith

length_more : (e : Event) (es : List Event) → length_after (first_work (stretches es)) e.reply ≡ first_work (stretches (e ∷ es))
length_more e es =
    ⊎_elim
    (λ (t : is_entry e.reply ≡ true). rw t refl)
    (λ (t : is_entry e.reply ≡ false). rw t (rw t at (length_onto e (stretches es))))
    (cases_Bool (is_entry e.reply))

longest_more : (e : Event) (es : List Event) → max (gap es) (length_after (first_work (stretches es)) e.reply) ≡ gap (e ∷ es)
longest_more e es =
    ⊎_elim
    (λ (t : is_entry e.reply ≡ true). rw t (omega arith))
    (λ (t : is_entry e.reply ≡ false). rw t (rw t at (longest_onto e (stretches es))))
    (cases_Bool (is_entry e.reply))

pub stretch_more : (e : Event) (es : List Event) → stretched (stretch_of es) e.reply ≡ stretch_of (e ∷ es)
stretch_more e es = λ i. record { length = length_more e es i; longest = longest_more e es i }

-- no stretch is longer than the past
pub length_bounded : (es : List Event) → (stretch_of es).length ≤ length es
length_bounded [] = omega arith
length_bounded (e ∷ es) = omega (arith, length_more e es, after_le (first_work (stretches es)) e.reply, length_bounded es)
  where
    after_le : (n : ℕ) (r : Reply) → length_after n r ≤ n + 1
    after_le n r = grind arith
