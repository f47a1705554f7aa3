-- What a reader holds, what opening a record gives, and how the cursor moves. Assumes nothing.
use Rattle.std.specs.Prelude.{◌≡◌, ℕ, ◌+◌, ◌-◌, ◌*◌, ◌/◌, cond, List, ◌++◌, length, drop, Ok, Option, Result, nat_lt}
use Rattle.std.specs.Result.{result_map_both}
use Rattle.std.specs.List.{slice_get}
use Rattle.std.specs.Option.{option_to_list}
use Rattle.lock.specs.declared.Call.{Call}
use Rattle.record.specs.declared.faults.RecordFault.{RecordFault}
use Rattle.record.specs.declared.reader.Reader.{Reader}
use Rattle.record.specs.Checks.{◌then◌, reading_test}
use Rattle.record.specs.Layout.{places_in, call_count_in, calls_of, calls_in}

pub record Reading : Type 0 where
  pub bytes : List ℕ
  pub places : ℕ
  pub call_count : ℕ
  -- the byte of the next call, or the end
  pub cursor : ℕ

abbrev pub reading : Reader → Reading
reading r =
    record {
      bytes = r.bytes.now;
      places = r.header.places;
      call_count = r.header.calls;
      cursor = r.cursor;
    }

abbrev pub opened : Result Reader RecordFault → Result Reading RecordFault
opened r = result_map_both reading (λ e. e) r

-- a reader before the first call of a record
abbrev pub start_of : List ℕ → Reading
start_of bs = record { bytes = bs; places = places_in bs; call_count = call_count_in bs; cursor = 16 }

-- what opening a record gives
abbrev pub opening : List ℕ → Result Reading RecordFault
opening bs = reading_test bs then Ok (start_of bs)

-- how many calls have come
abbrev pub position_of : Reading → ℕ
position_of r = (r.cursor - 16) / 2

-- the calls that are still to come
abbrev pub calls_left : Reading → List Call
calls_left r = calls_of (drop r.cursor r.bytes)

abbrev pub still_to_come : Reader → List Call
still_to_come r = calls_left (reading r)

abbrev pub at_byte : ℕ → Reading → Reading
at_byte k r = record { bytes = r.bytes; places = r.places; call_count = r.call_count; cursor = k }

-- one call further, unless all have come
abbrev pub moved : Reading → Reading
moved r = at_byte (cond (nat_lt (length r.bytes) (r.cursor + 2)) r.cursor (r.cursor + 2)) r

-- before the first call again
abbrev pub rewound : Reading → Reading
rewound r = at_byte 16 r

-- what a call of the reader that was at S returns, and where it leaves the reader
pub record NextCall (S : Reading) (r : Option Call) (T : Reading) : Type 0 where
  pub call : r ≡ slice_get (calls_left S) 0
  pub after : T ≡ moved S
  pub left : calls_left S ≡ option_to_list r ++ calls_left T
  -- where k calls have come, it is the call k of the record
  pub numbered : (k : ℕ) → S.cursor ≡ 16 + 2 * k → r ≡ slice_get (calls_in S.bytes) k
