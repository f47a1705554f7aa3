-- The tests of the reader and the writer, in their order, each with its fault. Assumes nothing.
use Rattle.std.specs.Prelude.{ℕ, ◌+◌, ◌*◌, Bool, cond, not, ◌||◌, List, [], ◌∷◌, length, drop, Ok, Err, Result, ◌==◌, nat_le, nat_lt}
use Rattle.record.specs.declared.call.RawCall.{RawCall}
use Rattle.record.specs.declared.faults.RecordFault.{RecordFault}
use Rattle.record.specs.declared.faults.RecordFault.TheVariants.{HeaderCut, PlaceCount, CallCount, CallOffset, WholeLength, CallKind, CallPlace, BufferCut}
use Rattle.record.specs.declared.reader.Header.{Header}
use Rattle.record.specs.Layout.{places_in, call_count_in, offset_in, length_in, call_bytes}

abbrev pub refuse_if : Bool → RecordFault → Result Unit RecordFault
refuse_if b e = cond b (Err e) (Ok tt)

infixr 4 ◌then◌
-- what comes after a test that passed; a test that failed is the outcome
abbrev pub ◌then◌ : {X : Type 0} → Result Unit RecordFault → Result X RecordFault → Result X RecordFault
Ok u then r = r
Err e then r = Err e

-- n places and c calls
abbrev pub counts_test : ℕ → ℕ → Result Unit RecordFault
counts_test n c = refuse_if (nat_lt n 1 || nat_lt 64 n) PlaceCount then refuse_if (nat_lt 20000 c) CallCount

-- the call of kind k and place p that lies at a byte, where there are n places
abbrev pub call_test : ℕ → ℕ → ℕ → ℕ → Result Unit RecordFault
call_test n at k p = refuse_if (nat_lt k 1 || nat_lt 3 k) (CallKind at) then refuse_if (nat_le n p) (CallPlace (at + 1))

-- the calls that lie from a byte on
abbrev pub calls_test : ℕ → ℕ → List ℕ → Result Unit RecordFault
calls_test n at [] = Ok tt
calls_test n at (k ∷ []) = Ok tt
calls_test n at (k ∷ (p ∷ rest)) = call_test n at k p then calls_test n (at + 2) rest

abbrev pub header_test : List ℕ → Result Unit RecordFault
header_test bs =
    refuse_if (nat_lt (length bs) 16) HeaderCut
    then counts_test (places_in bs) (call_count_in bs)
    then refuse_if (not (offset_in bs == 16)) CallOffset
    then refuse_if (not (length_in bs == 16 + 2 * call_count_in bs) || not (length_in bs == length bs)) WholeLength

-- what the header says, or the first of its tests that fails
abbrev pub header_read : List ℕ → Result Header RecordFault
header_read bs = header_test bs then Ok (record { places = places_in bs; calls = call_count_in bs })

-- all tests of the reader
abbrev pub reading_test : List ℕ → Result Unit RecordFault
reading_test bs = header_test bs then calls_test (places_in bs) 16 (drop 16 bs)

-- all tests of the writer, with room for so many bytes
abbrev pub writing_test : ℕ → List RawCall → ℕ → Result Unit RecordFault
writing_test n cs room =
    counts_test n (length cs)
    then calls_test n 16 (call_bytes cs)
    then refuse_if (nat_lt room (16 + 2 * length cs)) BufferCut
