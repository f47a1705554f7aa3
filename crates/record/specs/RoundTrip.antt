-- What a record says, and that reading and writing undo each other. Assumes nothing.
-- AllByRecursion P xs, of the library, says that P holds of each element of xs.
use Rattle.std.specs.Prelude.{◌≡◌, ℕ, ◌+◌, ◌*◌, ◌<◌, ◌≤◌, List, map, length, Ok, Result}
use Rattle.std.specs.List.{AllByRecursion}
use Rattle.lock.specs.declared.Call.{Call}
use Rattle.record.specs.declared.call.RawCall.{RawCall}
use Rattle.record.specs.declared.faults.RecordFault.{RecordFault}
use Rattle.record.specs.Checks.{◌then◌, reading_test}
use Rattle.record.specs.Layout.{places_in, call_count_in, calls_in, bus_call, raw_call, encode}

pub record Content : Type 0 where
  pub places : ℕ
  pub calls : List Call

-- what a record says, or the first test that it fails
abbrev pub decode : List ℕ → Result Content RecordFault
decode bs = reading_test bs then Ok (record { places = places_in bs; calls = calls_in bs })

-- what holds of every record that passes the tests
pub record Sound (bs : List ℕ) : Type 0 where
  pub few_places : places_in bs ≤ 64
  pub few_calls : call_count_in bs ≤ 20000
  pub whole : length bs ≡ 16 + 2 * call_count_in bs
  pub counted : length (calls_in bs) ≡ call_count_in bs
  pub placed : AllByRecursion (λ c. c.place < places_in bs) (calls_in bs)
  -- writing what was read gives the record
  pub written_again : encode (places_in bs) (map raw_call (calls_in bs)) ≡ bs

-- what holds of all places and calls that are written
pub record Faithful (n : ℕ) (cs : List RawCall) : Type 0 where
  -- reading what was written gives these places and calls
  pub read_again : decode (encode n cs) ≡ Ok (record { places = n; calls = map bus_call cs })
  -- and none of what the two bytes of a call say is lost
  pub same_calls : map raw_call (map bus_call cs) ≡ cs
