-- Each part answers for its own registers.
use Rattle.std.proofs.Common.{◌-◌, sym, ◌∙◌, arith}
use Rattle.pile.specs.PileCalls.{meanings}
use Rattle.pile.specs.Laws.Registers.{none_past_limit, one_of_top, one_of_left, one_of_right}
use Rattle.pile.proofs.PileLock.register.Goals as goal

pub returns-then-index-ge-REGISTER_LIMIT : goal.returns-then-index-ge-REGISTER_LIMIT
returns-then-index-ge-REGISTER_LIMIT g c =
    sym (none_past_limit (meanings g.T.Lock.form g.L.Lock.form g.R.Lock.form c.args.self.now) c.args.index (omega arith))

pub returns-then-index-top : goal.returns-then-index-top
returns-then-index-top g c =
    c.register.ensures
    ∙ sym (one_of_top (meanings g.T.Lock.form g.L.Lock.form g.R.Lock.form c.args.self.now) c.args.index (omega arith) (omega arith))

pub returns-then-index-top-2 : goal.returns-then-index-top-2
returns-then-index-top-2 g c =
    c.register-then-index-top-2.ensures
    ∙ sym (one_of_left (meanings g.T.Lock.form g.L.Lock.form g.R.Lock.form c.args.self.now) c.args.index (omega arith) (c.args.index - c.register_count-top.result) (omega arith) (omega arith))

pub returns : goal.returns
returns g c =
    c.register-2.ensures
    ∙ sym (one_of_right (meanings g.T.Lock.form g.L.Lock.form g.R.Lock.form c.args.self.now) c.args.index (omega arith) (c.args.index - c.register_count-top.result - c.register_count-left.result) (omega arith))
