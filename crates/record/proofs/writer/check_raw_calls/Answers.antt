-- The first call that is left decides, or leaves the outcome to those behind it. Assumes nothing.
use Rattle.std.proofs.Common.{◌≡◌, ◌+◌, ◌*◌, sym, refl, ◌∙◌, arith}
use Rattle.std.proofs.lemmas.List.{drop_more}
use Rattle.record.proofs.writer.check_raw_calls.Goals as goal

pub loop-index-preserved : goal.loop-index-preserved
loop-index-preserved c =
    let next : 16 + 2 * (c.loop-index.index + 1) ≡ 16 + 2 * c.loop-index.index + 2 = omega arith in
    let left = drop_more c.args.calls.now c.loop-index.index (record { kind = 0; place = 0 }) c.loop-index-test.true in
    let passed = sym c.check_call.ensures ∙ c.in_ok-check_call.was in
    rw (← c.loop-index.invariant, left, passed, next) refl
