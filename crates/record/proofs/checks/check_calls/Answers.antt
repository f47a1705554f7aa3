-- A call that passed leaves the outcome to the rest. Assumes nothing.
use Rattle.std.proofs.Common.{◌≡◌, ◌+◌, ◌-◌, ◌≤◌, length, drop, sym, ◌∙◌, arith, length-drop}
use Rattle.std.proofs.lemmas.List.{take_rest}
use Rattle.record.proofs.CallBytes.{calls_test_more}
use Rattle.record.proofs.checks.check_calls.Goals as goal

pub loop-rest-preserved : goal.loop-rest-preserved
loop-rest-preserved c =
    let calls = c.args.calls.now in
    let rest = c.loop-rest.rest.now in
    let before = c.loop-rest.invariant in
    let two : 2 ≤ length rest = omega (arith, c.in-len2-up.len_at_least) in
    let next : c.args.start + (length calls - length (drop 2 rest)) ≡ c.args.start + (length calls - length rest) + 2 = rw length-drop (omega arith) in
    rw take_rest
    (rw next (calls_test_more _ _ _ two (sym c.check_call.ensures ∙ c.in_ok-check_call.was)) ∙ before.0, rw length-drop (omega arith))
