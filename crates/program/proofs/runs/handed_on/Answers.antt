use Rattle.std.proofs.Common.{rules}
use Rattle.std.proofs.lemmas.List.{take_min}
use Rattle.program.proofs.runs.handed_on.Goals as goal

pub returns : goal.returns
returns c = search (rules, take_min)
