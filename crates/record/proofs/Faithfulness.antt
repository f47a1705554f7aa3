-- What passes the tests of the writer is read again. Assumes nothing.
use Rattle.std.proofs.Common.{◌≡◌, ℕ, ◌+◌, ◌*◌, ◌≤◌, List, [], ◌∷◌, ◌++◌, map, length, Ok, refl, ◌∙◌, arith}
use Rattle.std.proofs.lemmas.Bool.{or_parts, ltb-false, le-ltb, eq-eqb}
use Rattle.record.specs.declared.call.RawCall.{RawCall}
use Rattle.record.specs.Checks.{calls_test, header_test, writing_test}
use Rattle.record.specs.Layout.{number_bytes, places_in, call_count_in, length_in, call_bytes, bus_call, raw_call, encode}
use Rattle.record.specs.RoundTrip.{Faithful}
use Rattle.record.proofs.CallBytes.{length-call_bytes, calls_of-call_bytes}
use Rattle.record.proofs.Numbers.{number_of_bytes}
use Rattle.record.proofs.Passing.{Passes, call_passes, kind_number_of}
use Rattle.record.proofs.Sequence.{both_pass, not_refused}

header_of_passes : (bs : List ℕ) → Passes bs → header_test bs ≡ Ok tt
header_of_passes bs p =
    rw (le-ltb _ _ p.whole_header, le-ltb _ _ p.some_places, le-ltb _ _ p.few_places, le-ltb _ _ p.few_calls, eq-eqb _ _ p.usual_offset, eq-eqb _ _ p.own_length, eq-eqb _ _ p.given_length) refl

same_calls : (n at : ℕ) (cs : List RawCall) → calls_test n at (call_bytes cs) ≡ Ok tt → map raw_call (map bus_call cs) ≡ cs
same_calls n at [] h = refl
same_calls n at (c ∷ cs) h =
    let parts = both_pass _ _ h in
    let here = call_passes n at c.kind c.place parts.0 in
    rw (kind_number_of c.kind here.some_kind here.known_kind, same_calls n (at + 2) cs parts.1) refl

-- the header of a record that is written
encode_passes : (n : ℕ) (cs : List RawCall) → 1 ≤ n → n ≤ 64 → length cs ≤ 20000 → Passes (encode n cs) × (places_in (encode n cs) ≡ n)
encode_passes n cs some few few_calls =
    let calls = call_bytes cs in
    let whole = number_bytes (16 + 2 * length cs) ++ calls in
    let places : places_in (encode n cs) ≡ n = number_of_bytes n (number_bytes (length cs) ++ (number_bytes 16 ++ whole)) (omega arith) in
    let count : call_count_in (encode n cs) ≡ length cs = number_of_bytes (length cs) (number_bytes 16 ++ whole) (omega arith) in
    let own : length_in (encode n cs) ≡ 16 + 2 * length cs = number_of_bytes (16 + 2 * length cs) calls (omega arith) in
    let long = length-call_bytes cs in (
      record {
        whole_header = omega arith;
        some_places = rw places some;
        few_places = rw places few;
        few_calls = rw count few_calls;
        usual_offset = refl;
        own_length = own ∙ rw count refl;
        given_length = own ∙ omega arith;
      },
      places,
    )

pub faithful : (n : ℕ) (cs : List RawCall) (room : ℕ) → writing_test n cs room ≡ Ok tt → Faithful n cs
faithful n cs room h =
    let parts = both_pass _ _ h in
    let counts = both_pass _ _ parts.0 in
    let within = or_parts _ _ (not_refused _ _ counts.0) in
    let calls = (both_pass _ _ parts.1).0 in
    let header = encode_passes n cs (ltb-false _ _ within.0) (ltb-false _ _ within.1) (ltb-false _ _ (not_refused _ _ counts.1)) in
    record {
      read_again = rw (header_of_passes (encode n cs) header.0, header.1, calls, calls_of-call_bytes cs) refl;
      same_calls = same_calls n 16 cs calls;
    }
