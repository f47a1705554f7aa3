use Rattle.std.proofs.Common.{◌<◌, arith, rules}
use Rattle.std.proofs.lemmas.List.FromFn.{map-range_with_len_more}
use Rattle.std.proofs.lemmas.Bool.{lt-ltb}
use Rattle.program.specs.Lines.{phase_letter}
use Rattle.program.proofs.Joining.{piece_more}
use Rattle.program.proofs.text.PhasesDisplay.fmt.Goals as goal
use Rattle.program.proofs.text.PhasesDisplay.fmt.Goals.{in-Some+in_ok-write, in_default}

pub loop-place-preserved : goal.loop-place-preserved
loop-place-preserved g c p =
    let m = g.L.Lock.form.meaning c.args.self.now.0.now in
    let place = c.loop-place.place in
    let below : place < m.places = omega (arith, c.places-place-end.ensures.value) in
    let there = lt-ltb place m.places below in
    elim c.match-phase.branch [
      | in-Some+in_ok-write w ↦
          let answer = rw there at w.in-Some.ensures in
          piece_more _ phase_letter _ _ w.in-Some.phase _ _ _ (cc (map-range_with_len_more m.phase 0 place place (omega arith), answer)) (c.loop-place.invariant p) (search rules)
      | in_default w ↦ let answer = rw there at w.in_default.ensures in cc answer
    ]
