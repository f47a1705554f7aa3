-- How a bus record lies in bytes: its four numbers, low byte first, and then two bytes a call. Assumes nothing.
use Rattle.std.specs.Prelude.{ℕ, ◌+◌, ◌*◌, ◌/◌, ◌%◌, List, [], ◌∷◌, ◌++◌, length, drop, slice_index}
use Rattle.std.specs.Result.{result_unwrap_or}
use Rattle.lock.specs.declared.Call.{Call}
use Rattle.lock.specs.declared.Kind.{Kind}
use Rattle.lock.specs.declared.Kind.TheVariants.{Leave}
use Rattle.lock.specs.Kinds.{kind_number, kind_numbered}
use Rattle.record.specs.declared.call.RawCall.{RawCall}

-- the number in the four bytes from a place on
abbrev pub number_at : List ℕ → ℕ → ℕ
number_at bs at = slice_index bs at + slice_index bs (at + 1) * 256 + slice_index bs (at + 2) * 65536 + slice_index bs (at + 3) * 16777216

abbrev pub places_in : List ℕ → ℕ
places_in bs = number_at bs 0

abbrev pub call_count_in : List ℕ → ℕ
call_count_in bs = number_at bs 4

abbrev pub offset_in : List ℕ → ℕ
offset_in bs = number_at bs 8

abbrev pub length_in : List ℕ → ℕ
length_in bs = number_at bs 12

-- the four bytes of a number
abbrev pub number_bytes : ℕ → List ℕ
number_bytes n = (n % 256) ∷ ((n / 256 % 256) ∷ ((n / 65536 % 256) ∷ ((n / 16777216 % 256) ∷ [])))

-- the kind that a byte names; of a byte that names none, which no record has, a leave
abbrev pub kind_of : ℕ → Kind
kind_of k = result_unwrap_or (kind_numbered k) Leave

-- the call of two bytes whose first names a kind
abbrev pub bus_call : RawCall → Call
bus_call c = record { kind = kind_of c.kind; place = c.place }

abbrev pub raw_call : Call → RawCall
raw_call c = record { kind = kind_number c.kind; place = c.place }

-- the calls that lie one behind the other
abbrev pub calls_of : List ℕ → List Call
calls_of [] = []
calls_of (k ∷ []) = []
calls_of (k ∷ (p ∷ rest)) = bus_call (record { kind = k; place = p }) ∷ calls_of rest

abbrev pub calls_in : List ℕ → List Call
calls_in bs = calls_of (drop 16 bs)

abbrev pub call_bytes : List RawCall → List ℕ
call_bytes [] = []
call_bytes (c ∷ cs) = c.kind ∷ (c.place ∷ call_bytes cs)

-- the record of n places and these calls
abbrev pub encode : ℕ → List RawCall → List ℕ
encode n cs =
    number_bytes n ++ (number_bytes (length cs) ++ (number_bytes 16 ++ (number_bytes (16 + 2 * length cs) ++ call_bytes cs)))
