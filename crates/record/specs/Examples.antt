-- What the examples ask of opening a record. Assumes nothing.
use Rattle.std.specs.Prelude.{ℕ, Some, None, Ok, Err, Option, Result}
use Rattle.record.specs.declared.faults.RecordFault.{RecordFault}
use Rattle.record.specs.Faults.{fault_notice}
use Rattle.record.specs.Readers.{Reading}

-- the number and the byte with which a record is refused
abbrev pub refused_with : Result Reading RecordFault → Option (ℕ × Option ℕ)
refused_with (Ok reader) = None
refused_with (Err fault) = Some ((fault_notice fault).number, (fault_notice fault).byte)

-- the places and the calls of a record that opens
abbrev pub counts_of : Result Reading RecordFault → Option (ℕ × ℕ)
counts_of (Ok reader) = Some (reader.places, reader.call_count)
counts_of (Err fault) = None
