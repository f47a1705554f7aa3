-- The calls so far are written. Assumes nothing.
use Rattle.std.proofs.Common.{◌≡◌, take}
use Rattle.record.specs.Layout.{call_bytes}
use Rattle.record.specs.Writing.{put_at}
use Rattle.record.proofs.writer.put_calls.Given as goal

abbrev pub invariant-loop-index : goal.invariant-loop-index
invariant-loop-index l = l.buffer ≡ put_at l.initial.buffer 16 (call_bytes (take l.index l.calls))
