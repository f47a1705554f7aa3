-- A box that holds its side steps at the top, any other at its side; a refused step ends there.
use Rattle.std.proofs.Common.{◌≡◌, Some, refl, arith, rules}
use Rattle.std.proofs.lemmas.Result.{err_from_is_err_and}
use Rattle.lock.specs.declared.Phase.TheVariants.{Holding}
use Rattle.pile.proofs.Steps.{steps_at_top, steps_at_side}
use Rattle.pile.proofs.PileLock.step.Goals as goal

pub returns-in_ok-answer : goal.returns-in_ok-answer
returns-in_ok-answer g c =
    let there : c.find.result ≡ Some (c.in_ok-side.side, c.in_ok-side.inner) = search rules in
    let holding : c.side_phase.result ≡ Some Holding = search rules in
    steps_at_top g.T.Lock.form g.L.Lock.form g.R.Lock.form c.args.self.now _ c.after_top.new.self c.args.place c.find.result c.in_ok-side.side c.in_ok-side.inner c.side_phase.result _ _
    c.find.ensures.value there (c.find.ensures.within _ _ there).0 c.side_phase.ensures
    c.top_place.result holding c.top_place.ensures (c.in_ok-answer.ensures, refl, refl) c.after_top.ensures

pub returns-in_err-answer : goal.returns-in_err-answer
returns-in_err-answer g c =
    let there : c.find.result ≡ Some (c.in_ok-side.side, c.in_ok-side.inner) = search rules in
    let holding : c.side_phase.result ≡ Some Holding = search rules in
    let handed = err_from_is_err_and c.from_residual-in_err-answer.result c.from_residual-in_err-answer.ensures.1 in
    rw (handed.1, handed.2)
    (steps_at_top g.T.Lock.form g.L.Lock.form g.R.Lock.form c.args.self.now _ _ c.args.place c.find.result c.in_ok-side.side c.in_ok-side.inner c.side_phase.result _ _
    c.find.ensures.value there (c.find.ensures.within _ _ there).0 c.side_phase.ensures
    c.top_place.result holding c.top_place.ensures (c.in_err-answer.ensures, refl, refl) (refl, refl))

pub returns-in_ok-answer-2 : goal.returns-in_ok-answer-2
returns-in_ok-answer-2 g c =
    let there : c.find.result ≡ Some (c.in_ok-side.side, c.in_ok-side.inner) = search rules in
    steps_at_side g.T.Lock.form g.L.Lock.form g.R.Lock.form c.args.self.now _ c.after_side.new.self c.args.place c.find.result c.in_ok-side.side c.in_ok-side.inner c.side_phase.result _ _
    c.find.ensures.value there (c.find.ensures.within _ _ there).0 c.side_phase.ensures
    (λ e. grind arith) (c.in_ok-answer-2.ensures) c.after_side.ensures

pub returns-in_err-answer-2 : goal.returns-in_err-answer-2
returns-in_err-answer-2 g c =
    let there : c.find.result ≡ Some (c.in_ok-side.side, c.in_ok-side.inner) = search rules in
    let handed = err_from_is_err_and c.from_residual-in_err-answer-2.result c.from_residual-in_err-answer-2.ensures.1 in
    rw (handed.1, handed.2)
    (steps_at_side g.T.Lock.form g.L.Lock.form g.R.Lock.form c.args.self.now _ _ c.args.place c.find.result c.in_ok-side.side c.in_ok-side.inner c.side_phase.result _ _
    c.find.ensures.value there (c.find.ensures.within _ _ there).0 c.side_phase.ensures
    (λ e. grind arith) (c.in_err-answer-2.ensures) (refl, refl))
