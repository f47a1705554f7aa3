-- The first test that fails is the outcome, and a record that passes all of them is sound. Assumes nothing.
use Rattle.std.proofs.Common.{◌≡◌, ◌≤◌, length, Ok, refl, sym, ◌∙◌, arith, lit≤}
use Rattle.std.proofs.lemmas.Result.{err_from_is_err_and}
use Rattle.record.specs.Checks.{reading_test}
use Rattle.record.specs.RoundTrip.{Sound}
use Rattle.record.proofs.Passing.{header_refuses, calls_decide, read_of_bytes, sound}
use Rattle.record.proofs.reader.Reader.open.Goals as goal

pub returns-in_err-header-clause-outcome : goal.returns-in_err-header-clause-outcome
returns-in_err-header-clause-outcome c =
    let p = err_from_is_err_and c.from_residual.result c.from_residual.ensures.1 in
    rw (p.1, p.2, header_refuses c.args.bytes.now _ (sym c.read_header.ensures ∙ c.in_err-header.was)) refl

pub returns-in_err-check_calls-clause-outcome : goal.returns-in_err-check_calls-clause-outcome
returns-in_err-check_calls-clause-outcome c =
    let p = err_from_is_err_and c.from_residual-in_err-check_calls.result c.from_residual-in_err-check_calls.ensures.1 in
    rw (p.1, p.2, calls_decide c.args.bytes.now _ _ (sym c.read_header.ensures ∙ c.in_ok-header.was) c.check_calls.ensures, c.in_err-check_calls.was) refl

pub invariant_of-result : goal.invariant_of-result
invariant_of-result c =
    let bs = c.args.bytes.now in
    let read = sym c.read_header.ensures ∙ c.in_ok-header.was in
    let passed : reading_test bs ≡ Ok tt = calls_decide bs _ _ read c.check_calls.ensures ∙ c.in_ok-check_calls.was in
    let it_is : Sound bs = sound bs (λ i. omega (arith, c.type_inv.bytes i)) passed in
    let long : 16 ≤ length bs = omega (arith, it_is.whole) in
    record {
      passed = passed;
      sound = it_is;
      counts = rw (read_of_bytes bs _ read) (refl, refl);
      at_a_call = (lit≤ tt, refl, long);
    }
