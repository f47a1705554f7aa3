-- The number, byte and layer of each fault of a record. Assumes nothing.
use Rattle.std.specs.Prelude.{Some}
use Rattle.fault.specs.declared.Layer.TheVariants.{Record}
use Rattle.fault.specs.declared.Notice.{Notice}
use Rattle.record.specs.declared.faults.RecordFault.{RecordFault}
use Rattle.record.specs.declared.faults.RecordFault.TheVariants.{HeaderCut, PlaceCount, CallCount, CallOffset, WholeLength, CallKind, CallPlace, BufferCut}

-- the byte is the first of the field at fault, and of a buffer its first
abbrev pub fault_notice : RecordFault → Notice
fault_notice HeaderCut = record { number = 4; byte = Some 0; layer = Record }
fault_notice PlaceCount = record { number = 5; byte = Some 0; layer = Record }
fault_notice CallCount = record { number = 6; byte = Some 4; layer = Record }
fault_notice CallOffset = record { number = 7; byte = Some 8; layer = Record }
fault_notice WholeLength = record { number = 8; byte = Some 12; layer = Record }
fault_notice (CallKind at) = record { number = 9; byte = Some at; layer = Record }
fault_notice (CallPlace at) = record { number = 10; byte = Some at; layer = Record }
fault_notice BufferCut = record { number = 14; byte = Some 0; layer = Record }
