-- A record that passes the tests of the reader is sound. Assumes nothing.
use Rattle.std.proofs.Common.{◌≡◌, ℕ, zero, suc, ◌+◌, ◌-◌, ◌*◌, ◌/◌, ◌%◌, ◌<◌, ◌≤◌, List, [], ◌∷◌, ◌++◌, map, length, get_or, take, drop, Ok, Err, Result, IsOk, sym, refl, ap, ◌∙◌, arith, length-drop}
use Rattle.std.specs.List.{AllByRecursion}
use Rattle.std.proofs.lemmas.List.{take_rest, take-append-drop, drop-drop, length-map}
use Rattle.std.proofs.lemmas.Bool.{or_parts, ltb-false, leb-false, not-false, eqb-true}
use Rattle.std.proofs.lemmas.Bool.Decides.{nat_tests}
use Rattle.lock.specs.Kinds.{kind_number, kind_numbered}
use Rattle.record.specs.declared.faults.RecordFault.{RecordFault}
use Rattle.record.specs.declared.reader.Header.{Header}
use Rattle.record.specs.Checks.{header_read, header_test, call_test, calls_test, reading_test}
use Rattle.record.specs.Layout.{number_bytes, places_in, call_count_in, offset_in, length_in, kind_of, calls_of, calls_in, call_bytes, raw_call, encode}
use Rattle.record.specs.Readers.{opening}
use Rattle.record.specs.RoundTrip.{Sound}
use Rattle.record.proofs.Numbers.{bytes_of_number}
use Rattle.record.proofs.Sequence.{fails_first, passes, both_pass, not_refused}

-- a header that is refused refuses the record
pub header_refuses : (bs : List ℕ) (e : RecordFault) → header_read bs ≡ Err e → opening bs ≡ Err e
header_refuses bs e h = fails_first (header_test bs) (calls_test (places_in bs) 16 (drop 16 bs)) _ _ e h

-- where the header passes, the calls decide
pub calls_decide : (bs : List ℕ) (h : Header) (r : Result Unit RecordFault) → header_read bs ≡ Ok h → r ≡ calls_test h.places 16 (take (length bs - 16) (drop 16 bs)) → reading_test bs ≡ r
calls_decide bs h r e f =
    let read = passes (header_test bs) _ h e in
    rw (read.0, f, ← read.1, take_rest bs 16) refl

-- and the header says what its bytes say
pub read_of_bytes : (bs : List ℕ) (h : Header) → header_read bs ≡ Ok h → h ≡ record { places = places_in bs; calls = call_count_in bs }
read_of_bytes bs h e = sym (passes (header_test bs) _ h e).1

-- what the header test tells
pub record Passes (bs : List ℕ) : Type 0 where
  pub whole_header : 16 ≤ length bs
  pub some_places : 1 ≤ places_in bs
  pub few_places : places_in bs ≤ 64
  pub few_calls : call_count_in bs ≤ 20000
  pub usual_offset : offset_in bs ≡ 16
  pub own_length : length_in bs ≡ 16 + 2 * call_count_in bs
  pub given_length : length_in bs ≡ length bs

pub header_passes : (bs : List ℕ) → header_test bs ≡ Ok tt → Passes bs
header_passes bs h =
    let header = both_pass _ _ h in
    let counts = both_pass _ _ header.1 in
    let places = both_pass _ _ counts.0 in
    let offset = both_pass _ _ counts.1 in
    let within = or_parts _ _ (not_refused _ _ places.0) in
    let lengths = or_parts _ _ (not_refused _ _ offset.1) in
    record {
      whole_header = ltb-false _ _ (not_refused _ _ header.0);
      some_places = ltb-false _ _ within.0;
      few_places = ltb-false _ _ within.1;
      few_calls = ltb-false _ _ (not_refused _ _ places.1);
      usual_offset = eqb-true _ _ (not-false _ (not_refused _ _ offset.0));
      own_length = eqb-true _ _ (not-false _ lengths.0);
      given_length = eqb-true _ _ (not-false _ lengths.1);
    }

-- what the test of a call tells
pub record CallPasses (n k p : ℕ) : Type 0 where
  pub some_kind : 1 ≤ k
  pub known_kind : k ≤ 3
  pub known_place : p < n

pub call_passes : (n at k p : ℕ) → call_test n at k p ≡ Ok tt → CallPasses n k p
call_passes n at k p h =
    let parts = both_pass _ _ h in
    let kind = or_parts _ _ (not_refused _ _ parts.0) in
    record {
      some_kind = ltb-false _ _ kind.0;
      known_kind = ltb-false _ _ kind.1;
      known_place = leb-false _ _ (not_refused _ _ parts.1);
    }

pub kind_number_of : (k : ℕ) → 1 ≤ k → k ≤ 3 → kind_number (kind_of k) ≡ k
kind_number_of k low high = grind (arith, nat_tests)

-- each of the calls that pass passes its own test
nth_passes : (n at k : ℕ) (bs : List ℕ) → calls_test n at bs ≡ Ok tt → 2 ≤ length (drop (2 * k) bs) → CallPasses n (get_or (drop (2 * k) bs) 0 0) (get_or (drop (2 * k) bs) 1 0)
nth_passes n at k [] h long = let none : List ℕ = [] in absurd (omega (arith, length-drop (2 * k) none))
nth_passes n at k (b ∷ []) h long = absurd (omega (arith, length-drop (2 * k) (b ∷ [])))
nth_passes n at zero (b ∷ (p ∷ rest)) h long = call_passes n at b p (both_pass _ _ h).0
nth_passes n at (suc k) (b ∷ (p ∷ rest)) h long =
    let twice : 2 * suc k ≡ suc (suc (2 * k)) = omega arith in
    rw twice (nth_passes n (at + 2) k rest (both_pass _ _ h).1 (rw twice at long))

known : (k : ℕ) → 1 ≤ k → k ≤ 3 → IsOk (kind_numbered k)
known k low high = grind (arith, nat_tests)

-- before the end of a record that passes stands a byte that names a kind
pub kind_known : (bs : List ℕ) (at : ℕ) → reading_test bs ≡ Ok tt → 16 ≤ at → at % 2 ≡ 0 → 2 ≤ length (drop at bs) → IsOk (kind_numbered (get_or (drop at bs) 0 0))
kind_known bs at h low even long =
    let k = (at - 16) / 2 in
    let here : 16 + 2 * k ≡ at = omega arith in
    let there : drop (2 * k) (drop 16 bs) ≡ drop at bs = drop-drop (2 * k) 16 bs ∙ ap (λ i. drop i bs) here in
    let call = nth_passes (places_in bs) 16 k (drop 16 bs) (both_pass _ _ h).1 (rw there long) in
    rw (← there) (known _ call.some_kind call.known_kind)

-- what the test of m calls tells
pub record CallsPass (n m : ℕ) (bs : List ℕ) : Type 0 where
  pub counted : length (calls_of bs) ≡ m
  pub placed : AllByRecursion (λ c. c.place < n) (calls_of bs)
  pub written_again : call_bytes (map raw_call (calls_of bs)) ≡ bs

pub calls_pass : (n at m : ℕ) (bs : List ℕ) → length bs ≡ 2 * m → calls_test n at bs ≡ Ok tt → CallsPass n m bs
calls_pass n at m [] e h = record { counted = omega arith; placed = tt; written_again = refl }
calls_pass n at m (k ∷ []) e h = absurd (omega arith)
calls_pass n at m (k ∷ (p ∷ rest)) e h =
    let parts = both_pass _ _ h in
    let here = call_passes n at k p parts.0 in
    let more = calls_pass n (at + 2) (m - 1) rest (omega arith) parts.1 in
    record {
      counted = omega (arith, more.counted);
      placed = (here.known_place, more.placed);
      written_again = rw (kind_number_of k here.some_kind here.known_kind, more.written_again) refl;
    }

-- a list is its first four fours and the rest
fours_then_rest : (bs a b c d : List ℕ) → a ≡ take 4 (drop 0 bs) → b ≡ take 4 (drop 4 bs) → c ≡ take 4 (drop 8 bs) → d ≡ take 4 (drop 12 bs) → a ++ (b ++ (c ++ (d ++ drop 16 bs))) ≡ bs
fours_then_rest bs a b c d first second third fourth =
    let from_fourth : d ++ drop 16 bs ≡ drop 12 bs = rw (fourth, ← drop-drop 4 12 bs) (take-append-drop 4 (drop 12 bs)) in
    let from_third : c ++ drop 12 bs ≡ drop 8 bs = rw (third, ← drop-drop 4 8 bs) (take-append-drop 4 (drop 8 bs)) in
    let from_second : b ++ drop 8 bs ≡ drop 4 bs = rw (second, ← drop-drop 4 4 bs) (take-append-drop 4 (drop 4 bs)) in
    rw (from_fourth, from_third, from_second, first) (take-append-drop 4 bs)

-- the numbers of the header stand in its bytes, and the calls behind them
written_again : (bs : List ℕ) → ((i : ℕ) → get_or bs i 0 < 256) → Passes bs → CallsPass (places_in bs) (call_count_in bs) (drop 16 bs) → encode (places_in bs) (map raw_call (calls_in bs)) ≡ bs
written_again bs small header calls =
    let count : length (map raw_call (calls_in bs)) ≡ call_count_in bs = length-map (calls_in bs) raw_call ∙ calls.counted in
    rw (count, calls.written_again)
    (fours_then_rest bs _ _ _ _
    (bytes_of_number bs 0 (omega arith) small)
    (bytes_of_number bs 4 (omega arith) small)
    (ap number_bytes (sym header.usual_offset) ∙ bytes_of_number bs 8 (omega arith) small)
    (ap number_bytes (sym header.own_length) ∙ bytes_of_number bs 12 (omega arith) small))

pub sound : (bs : List ℕ) → ((i : ℕ) → get_or bs i 0 < 256) → reading_test bs ≡ Ok tt → Sound bs
sound bs small h =
    let parts = both_pass _ _ h in
    let header = header_passes bs parts.0 in
    let even : length (drop 16 bs) ≡ 2 * call_count_in bs = rw length-drop (omega arith) in
    let calls = calls_pass (places_in bs) 16 (call_count_in bs) (drop 16 bs) even parts.1 in
    record {
      few_places = header.few_places;
      few_calls = header.few_calls;
      whole = omega (arith, header.own_length, header.given_length);
      counted = calls.counted;
      placed = calls.placed;
      written_again = written_again bs small header calls;
    }
