-- The number, byte and layer of each fault of a replay. Assumes nothing.
use Rattle.std.specs.Prelude.{Some}
use Rattle.fault.specs.declared.Layer.TheVariants.{Replay}
use Rattle.fault.specs.declared.Notice.{Notice}
use Rattle.record.specs.Faults.{fault_notice}
use Rattle.replay.specs.declared.faults.ReplayFault.{ReplayFault}
use Rattle.replay.specs.declared.faults.ReplayFault.TheVariants.{OfRecord, OtherPlaces, ShortLog}

-- a fault of the record keeps its own number, byte and layer
abbrev pub replay_notice : ReplayFault → Notice
replay_notice (OfRecord e) = fault_notice e
replay_notice OtherPlaces = record { number = 11; byte = Some 0; layer = Replay }
replay_notice ShortLog = record { number = 12; byte = Some 0; layer = Replay }
