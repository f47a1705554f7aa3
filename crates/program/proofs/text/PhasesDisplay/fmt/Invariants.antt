use Rattle.std.proofs.Common.{map}
use Rattle.std.specs.List.{flat_map, range_with_len}
use Rattle.std.specs.Fmt.{HasWritten, IsPlainFormatter}
use Rattle.program.specs.Lines.{phase_letter}
use Rattle.program.proofs.text.PhasesDisplay.fmt.Given as goal

abbrev pub invariant-loop-place : goal.invariant-loop-place
invariant-loop-place g l =
    let phases = map (g.L.Lock.form.meaning l.self.0.now).phase (range_with_len 0 l.place) in
    IsPlainFormatter l.initial.f → HasWritten g.W.Write.write_str_gives l.initial.f (flat_map phase_letter phases) l.f
