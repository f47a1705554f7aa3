use Rattle.std.proofs.Common.{◌<◌, length, arith, rules}
use Rattle.std.proofs.lemmas.List.{take_more}
use Rattle.std.proofs.lemmas.Option.{slice_get-get_or}
use Rattle.program.specs.Lines.{number_text}
use Rattle.program.proofs.Joining.{piece_more}
use Rattle.program.proofs.text.RegistersDisplay.fmt.Goals as goal
use Rattle.program.proofs.text.RegistersDisplay.fmt.Goals.{in-Some+in_ok-write, in_default}

pub loop-index-preserved : goal.loop-index-preserved
loop-index-preserved g c p =
    let registers = (g.L.Lock.form.meaning c.args.self.now.0.now).registers in
    let index = c.loop-index.index in
    let within : index < length registers = omega (arith, c.register_count-index-end.ensures.value) in
    elim c.match-register.branch [
      | in-Some+in_ok-write w ↦
          let value = w.in-Some.value in
          piece_more _ number_text _ _ value _ _ _ (cc (take_more registers index value within, slice_get-get_or registers index value within, w.in-Some.ensures)) (c.loop-index.invariant p) (search rules)
      | in_default w ↦ cc (slice_get-get_or registers index 0 within, w.in_default.ensures)
    ]
