use Rattle.record.specs.Readers.{still_to_come}
use Rattle.replay.proofs.SoFar.{SoFar}
use Rattle.replay.proofs.make_calls.Given as goal

-- the calls so far are a past, and all that is kept is of it
abbrev pub invariant-loop-call : goal.invariant-loop-call
invariant-loop-call g l =
    SoFar g.L.Lock.form l.initial.lock l.lock (still_to_come l.fn.reader) (still_to_come l.call-iterator) l.initial.log l.log l.tally
