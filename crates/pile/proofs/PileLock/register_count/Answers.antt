-- The count is that of the three lists put together, cut at the limit.
use Rattle.std.proofs.Common.{arith, length-append, length-take}
use Rattle.pile.proofs.PileLock.register_count.Goals as goal

pub returns-clause-value : goal.returns-clause-value
returns-clause-value g c = simp (length-take, length-append) (omega arith)
