use Rattle.program.proofs.TwoBoxes.{two_boxes}
use Rattle.program.proofs.examples.whole_run_logs_entries_7_0_and_10_1.Goals as goal

pub returns : goal.returns
returns c =
    let h = two_boxes c.new-lock.result c.replay-summary.new.lock c.replay-summary.new.log c.replay-summary.result c.replay-summary.ensures.outcome in
    record { summary = h.0; log = h.1 }
