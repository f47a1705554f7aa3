-- What writing a record returns, and the buffer that it leaves. Assumes nothing.
use Rattle.std.specs.Prelude.{ℕ, ◌+◌, ◌*◌, List, ◌++◌, length, take, drop, Ok, Err, Result}
use Rattle.record.specs.declared.call.RawCall.{RawCall}
use Rattle.record.specs.declared.faults.RecordFault.{RecordFault}
use Rattle.record.specs.Checks.{◌then◌, writing_test}
use Rattle.record.specs.Layout.{encode}

-- the bytes of a buffer with others written over them from a byte on
abbrev pub put_at : List ℕ → ℕ → List ℕ → List ℕ
put_at buffer at bs = take at buffer ++ (bs ++ drop (at + length bs) buffer)

-- the length of the record, or the first test that fails
abbrev pub writing : ℕ → List RawCall → List ℕ → Result ℕ RecordFault
writing n cs buffer = writing_test n cs (length buffer) then Ok (16 + 2 * length cs)

-- a buffer that passed starts with the record and goes on as it was, and one that did not is as it was
abbrev pub filled : Result Unit RecordFault → List ℕ → List ℕ → List ℕ
filled (Ok u) bs buffer = bs ++ drop (length bs) buffer
filled (Err e) bs buffer = buffer

abbrev pub buffer_after : ℕ → List RawCall → List ℕ → List ℕ
buffer_after n cs buffer = filled (writing_test n cs (length buffer)) (encode n cs) buffer
