-- The log after one call more is that of the longer past. Assumes nothing.
use Rattle.std.proofs.Common.{◌≡◌, ℕ, ◌+◌, ◌<◌, Bool, true, false, cond, List, [], ◌∷◌, ◌++◌, length, drop, set, refl, ap, ⊎_elim, arith}
use Rattle.std.proofs.lemmas.List.{length_push}
use Rattle.std.proofs.lemmas.Bool.{cases_Bool}
use Rattle.lock.specs.Pasts.{Event, is_entry}
use Rattle.replay.specs.declared.report.Entry.{Entry}
use Rattle.replay.specs.Reports.{count, entries, logged}
use Rattle.replay.specs.Running.{log_after}

abbrev entry_of : Event → List Event → Entry
entry_of e es = record { call = length es; place = e.call.place }

-- there is one slot for each entry
pub entries_counted : (es : List Event) → length (entries es) ≡ count (λ e. is_entry e.reply) es
entries_counted [] = refl
entries_counted (e ∷ es) = by_test (is_entry e.reply) (entries es) (entry_of e es) (count (λ x. is_entry x.reply) es) (entries_counted es)
  where
    by_test : (t : Bool) (xs : List Entry) (x : Entry) (n : ℕ) → length xs ≡ n → length (cond t (xs ++ (x ∷ [])) xs) ≡ cond t 1 0 + n
    by_test true xs x n h = omega (arith, length_push xs x)
    by_test false xs x n h = omega arith

-- writing at the end of the front puts one more onto it
set_front : (xs log : List Entry) (x : Entry) → length xs < length log → set (xs ++ drop (length xs) log) (length xs) x ≡ (xs ++ (x ∷ [])) ++ drop (length (xs ++ (x ∷ []))) log
set_front [] [] x h = absurd (omega (arith, h))
set_front [] (y ∷ log) x h = refl
set_front (z ∷ xs) [] x h = absurd (omega (arith, h))
set_front (z ∷ xs) (y ∷ log) x h = ap (λ (l : List Entry). z ∷ l) (set_front xs log x (omega (arith, h)))

pub logged_more : (e : Event) (es : List Event) (log : List Entry) (n : ℕ) → n ≡ length (entries es) → n < length log → log_after (logged es log) n (length es) e.call e.reply ≡ logged (e ∷ es) log
logged_more e es log n is room =
    ⊎_elim
    (λ (t : is_entry e.reply ≡ true). rw (t, is) (set_front (entries es) log (entry_of e es) (omega (arith, is, room))))
    (λ (t : is_entry e.reply ≡ false). rw t refl)
    (cases_Bool (is_entry e.reply))
