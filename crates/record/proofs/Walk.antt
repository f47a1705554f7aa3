-- One call of the reader, from where its cursor stands. Assumes nothing.
use Rattle.std.proofs.Common.{◌≡◌, ℕ, ◌+◌, ◌*◌, ◌<◌, ◌≤◌, List, [], ◌∷◌, length, get_or, drop, Some, None, sym, refl, ap, ◌∙◌, arith, length-drop}
use Rattle.std.specs.List.{slice_get}
use Rattle.std.proofs.lemmas.List.{drop-drop}
use Rattle.std.proofs.lemmas.Bool.{lt-ltb, le-ltb}
use Rattle.lock.specs.declared.Kind.{Kind}
use Rattle.record.specs.Layout.{calls_of, calls_in, kind_of}
use Rattle.record.specs.Readers.{Reading, NextCall, calls_left, at_byte}
use Rattle.record.proofs.CallBytes.{calls_of_none, calls_of_more, nth_calls_of}

-- the call at the cursor, by its number
numbered_left : (S : Reading) (k : ℕ) → S.cursor ≡ 16 + 2 * k → slice_get (calls_left S) 0 ≡ slice_get (calls_in S.bytes) k
numbered_left S k e = rw (e, ← drop-drop (2 * k) 16 S.bytes) (sym (nth_calls_of k (drop 16 S.bytes)))

-- with no two bytes left, none comes
pub ended : (S : Reading) → length S.bytes < S.cursor + 2 → NextCall S None S
ended S h =
    let short : length (drop S.cursor S.bytes) < 2 = rw length-drop (omega arith) in
    let none : calls_left S ≡ [] = calls_of_none (drop S.cursor S.bytes) short in
    record {
      call = rw none refl;
      after = rw (lt-ltb _ _ h) refl;
      left = refl;
      numbered = λ k e. sym (sym (numbered_left S k e) ∙ rw none refl);
    }

-- else the call of the next two bytes
pub came : (S : Reading) (front : List ℕ) (k : Kind) (at : ℕ) → front ≡ drop S.cursor S.bytes → 2 ≤ length front → k ≡ kind_of (get_or front 0 0) → at ≡ S.cursor + 2 → NextCall S (Some (record { kind = k; place = get_or front 1 0 })) (at_byte at S)
came S front k at e two kind place =
    let within : S.cursor + 2 ≤ length S.bytes = omega (arith, ap length e ∙ length-drop S.cursor S.bytes) in
    let calls : calls_left S ≡ record { kind = k; place = get_or front 1 0 } ∷ calls_of (drop 2 front) = rw (kind, ← e) (calls_of_more front two) in
    record {
      call = rw calls refl;
      after = rw (le-ltb _ _ within, place) refl;
      left = calls ∙ rw (place, e, drop-drop 2 S.cursor S.bytes) refl;
      numbered = λ n at_n. sym (sym (numbered_left S n at_n) ∙ rw calls refl);
    }
