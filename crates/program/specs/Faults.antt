-- The number, byte and layer of each fault of the program, and what a run without a report says. Assumes nothing.
use Rattle.std.specs.Prelude.{ℕ, List, ◌++◌, Some, codes, decimal}
use Rattle.fault.specs.declared.Layer.TheVariants.{Program}
use Rattle.fault.specs.declared.Notice.{Notice}
use Rattle.replay.specs.Faults.{replay_notice}
use Rattle.program.specs.declared.faults.ProgramFault.{ProgramFault}
use Rattle.program.specs.declared.faults.ProgramFault.TheVariants.{OfReplay, NoPile}
use Rattle.program.specs.declared.faults.RunError.{RunError}
use Rattle.program.specs.declared.faults.RunError.TheVariants.{Refused, OutOfMemory}

-- a fault of the replay keeps its own number, byte and layer
abbrev pub program_notice : ProgramFault → Notice
program_notice (OfReplay e) = replay_notice e
program_notice NoPile = record { number = 13; byte = Some 0; layer = Program }

abbrev pub run_error_text : RunError → List ℕ
run_error_text (Refused e) = codes "the input is refused with " ++ decimal (program_notice e).number
run_error_text OutOfMemory = codes "memory allocation failed"
