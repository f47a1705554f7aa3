-- The promises hold of every lock that keeps the meaning; the outcome is found alone.
use Rattle.lock.proofs.Pasts.{promises}
use Rattle.replay.proofs.replay.Goals as goal

pub returns-in_err-reader-clause-promises : goal.returns-in_err-reader-clause-promises
returns-in_err-reader-clause-promises g c = promises g.met.L.Lock.keeps

pub returns-then-places-clause-promises : goal.returns-then-places-clause-promises
returns-then-places-clause-promises g c = promises g.met.L.Lock.keeps

pub returns-then-log-calls-clause-promises : goal.returns-then-log-calls-clause-promises
returns-then-log-calls-clause-promises g c = promises g.met.L.Lock.keeps

pub returns-clause-promises : goal.returns-clause-promises
returns-clause-promises g c = promises g.met.L.Lock.keeps
