-- The printed names of the layers. Assumes nothing.
use Rattle.std.specs.Prelude.{ℕ, List, codes}
use Rattle.fault.specs.declared.Layer.{Layer}
use Rattle.fault.specs.declared.Layer.TheVariants.{Lock, Record, Replay, Program}

-- the bytes of a layer's name
abbrev pub layer_name : Layer → List ℕ
layer_name Lock = codes "lock"
layer_name Record = codes "record"
layer_name Replay = codes "replay"
layer_name Program = codes "program"
