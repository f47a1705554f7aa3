-- The number, byte and layer of each refusal of a lock. Assumes nothing.
use Rattle.std.specs.Prelude.{ℕ, Some, None, Option}
use Rattle.fault.specs.declared.Layer.TheVariants.{Lock}
use Rattle.fault.specs.declared.Notice.{Notice}
use Rattle.lock.specs.declared.Refusal.{Refusal}
use Rattle.lock.specs.declared.Refusal.TheVariants.{NoPlace, WrongPhase, BidsSpent}

-- no bytes are handed to a lock, so none is at fault
abbrev pub refusal_notice : Refusal → Notice
refusal_notice NoPlace = record { number = 1; byte = None; layer = Lock }
refusal_notice WrongPhase = record { number = 2; byte = None; layer = Lock }
refusal_notice BidsSpent = record { number = 3; byte = None; layer = Lock }

-- the number of the refusal that a call gets, if any
abbrev pub refused_with : Option Refusal → Option ℕ
refused_with (Some e) = Some (refusal_notice e).number
refused_with None = None
