-- What is left of the calls gives the outcome. Assumes nothing.
use Rattle.std.proofs.Common.{◌≡◌, ◌+◌, ◌-◌, ◌≤◌, length}
use Rattle.record.specs.Checks.{calls_test}
use Rattle.record.proofs.checks.check_calls.Given as goal

abbrev pub invariant-loop-rest : goal.invariant-loop-rest
invariant-loop-rest l =
    (calls_test l.places (l.start + (length l.calls - length l.rest)) l.rest ≡ calls_test l.places l.start l.calls)
    × (length l.rest ≤ length l.calls)

abbrev pub decreases-loop-rest : goal.decreases-loop-rest
decreases-loop-rest l = length l.rest
