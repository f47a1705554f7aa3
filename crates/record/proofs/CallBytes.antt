-- The bytes of calls, taken off the front two by two. Assumes nothing.
use Rattle.std.proofs.Common.{◌≡◌, ℕ, zero, suc, ◌+◌, ◌*◌, ◌<◌, ◌≤◌, List, [], ◌∷◌, map, length, get_or, drop, Ok, refl, ap, arith}
use Rattle.std.specs.List.{slice_get}
use Rattle.std.proofs.lemmas.List.{drop_all}
use Rattle.record.specs.declared.call.RawCall.{RawCall}
use Rattle.record.specs.Checks.{call_test, calls_test}
use Rattle.record.specs.Layout.{calls_of, call_bytes, bus_call}

-- after a call that passed, the rest gives the outcome
pub calls_test_more : (n at : ℕ) (bs : List ℕ) → 2 ≤ length bs → call_test n at (get_or bs 0 0) (get_or bs 1 0) ≡ Ok tt → calls_test n (at + 2) (drop 2 bs) ≡ calls_test n at bs
calls_test_more n at [] h e = absurd (omega arith)
calls_test_more n at (k ∷ []) h e = absurd (omega arith)
calls_test_more n at (k ∷ (p ∷ rest)) h e = rw e refl

pub calls_of_none : (bs : List ℕ) → length bs < 2 → calls_of bs ≡ []
calls_of_none [] h = refl
calls_of_none (k ∷ []) h = refl
calls_of_none (k ∷ (p ∷ rest)) h = absurd (omega arith)

pub calls_of_more : (bs : List ℕ) → 2 ≤ length bs → calls_of bs ≡ bus_call (record { kind = get_or bs 0 0; place = get_or bs 1 0 }) ∷ calls_of (drop 2 bs)
calls_of_more [] h = absurd (omega arith)
calls_of_more (k ∷ []) h = absurd (omega arith)
calls_of_more (k ∷ (p ∷ rest)) h = refl

-- the call k is the first behind 2 * k bytes
pub nth_calls_of : (k : ℕ) (bs : List ℕ) → slice_get (calls_of bs) k ≡ slice_get (calls_of (drop (2 * k) bs)) 0
nth_calls_of zero bs = refl
nth_calls_of (suc k) [] = let none : List ℕ = [] in rw (drop_all (2 * suc k) none (omega arith)) refl
nth_calls_of (suc k) (b ∷ []) = rw (drop_all (2 * suc k) (b ∷ []) (omega arith)) refl
nth_calls_of (suc k) (b ∷ (p ∷ rest)) =
    let twice : 2 * suc k ≡ suc (suc (2 * k)) = omega arith in
    rw twice (nth_calls_of k rest)

pub length-call_bytes : (cs : List RawCall) → length (call_bytes cs) ≡ 2 * length cs
length-call_bytes [] = refl
length-call_bytes (c ∷ cs) = let more = length-call_bytes cs in omega arith

pub calls_of-call_bytes : (cs : List RawCall) → calls_of (call_bytes cs) ≡ map bus_call cs
calls_of-call_bytes [] = refl
calls_of-call_bytes (c ∷ cs) = ap (λ l. bus_call c ∷ l) (calls_of-call_bytes cs)
