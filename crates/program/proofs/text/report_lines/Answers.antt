use Rattle.std.proofs.Common.{append_assoc}
use Rattle.program.proofs.Reporting.{lines_join}
use Rattle.program.proofs.text.report_lines.Goals as goal

pub returns : goal.returns
returns g c =
    lines_join c.args.pile _ (g.L.Lock.form.meaning c.args.lock.now) c.args.entries.now c.args.summary _ _ _ _ _ _ _
    c.places-places.ensures.value c.in_ok-text.ensures.ok c.in_ok-write.ensures.bytes (simp append_assoc at c.in_ok-writeln.ensures.bytes) c.in_ok-writeln-2.ensures.bytes c.in_ok-writeln-3.ensures.bytes c.in_ok-writeln-4.ensures.bytes c.in_ok-writeln-5.ensures.bytes
