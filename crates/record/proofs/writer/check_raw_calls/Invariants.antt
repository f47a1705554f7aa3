-- What is left of the calls gives the outcome. Assumes nothing.
use Rattle.std.proofs.Common.{◌≡◌, ◌+◌, ◌*◌, drop}
use Rattle.record.specs.Checks.{calls_test}
use Rattle.record.specs.Layout.{call_bytes}
use Rattle.record.proofs.writer.check_raw_calls.Given as goal

abbrev pub invariant-loop-index : goal.invariant-loop-index
invariant-loop-index l = calls_test l.places (16 + 2 * l.index) (call_bytes (drop l.index l.calls)) ≡ calls_test l.places 16 (call_bytes l.calls)
