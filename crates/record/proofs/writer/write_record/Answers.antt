-- Once every test passed, the header and the calls are put one behind the other. Assumes nothing.
use Rattle.std.proofs.Common.{◌≡◌, length, Ok, sym, refl, ap, ◌∙◌}
use Rattle.std.proofs.lemmas.Bool.{le-ltb}
use Rattle.record.specs.Checks.{writing_test}
use Rattle.record.specs.Writing.{put_at}
use Rattle.record.proofs.Faithfulness.{faithful}
use Rattle.record.proofs.Putting.{record_put}
use Rattle.record.proofs.writer.write_record.Goals as goal

pub returns : goal.returns
returns c =
    let calls = c.args.calls.now in
    let buffer = c.args.buffer.now in
    let counts = sym c.check_counts.ensures ∙ c.in_ok-check_counts.was in
    let each = sym c.check_raw_calls.ensures ∙ c.in_ok-check_raw_calls.was in
    let passed : writing_test c.args.places calls (length buffer) ≡ Ok tt = rw (counts, each, le-ltb _ _ c.if-buffer-length.false) refl in
    let put = record_put c.args.places calls buffer _ _ _ _ _
    (c.put.ensures ∙ ap (put_at buffer 0) c.to_le_bytes.ensures)
    (c.put-2.ensures ∙ ap (put_at c.put.new.buffer 4) c.to_le_bytes-2.ensures)
    (c.put-3.ensures ∙ ap (put_at c.put-2.new.buffer 8) c.to_le_bytes-3.ensures)
    (c.put-4.ensures ∙ ap (put_at c.put-3.new.buffer 12) c.to_le_bytes-4.ensures)
    c.put_calls.ensures in
    record {
      outcome = rw passed refl;
      buffer = rw passed put;
      round_trip = faithful c.args.places calls (length buffer) passed;
    }
