-- Cited, though the check finds it alone, so that a log of another length is refused by its length and not by a limit of the search.
use Rattle.program.proofs.runs.empty_log.Goals as goal

pub returns : goal.returns
returns c = c.vec.ensures.len
