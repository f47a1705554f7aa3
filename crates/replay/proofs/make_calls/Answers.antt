-- The calls made are a past of the lock, and all that is kept from call to call is of that past.
use Rattle.std.proofs.Common.{length, arith, rules}
use Rattle.lock.proofs.Pasts.{promises}
use Rattle.replay.proofs.SoFar.{listed, all_to_come, ready, enters_within, one_more, all_made}
use Rattle.replay.proofs.make_calls.Goals as goal

pub make_call-requires-clause-ready : goal.make_call-requires-clause-ready
make_call-requires-clause-ready g c =
    ready g.L.Lock.form _ _ _ (listed c.args.reader (length c.args.log.now) c.requires.start c.requires.slots) _ _ _ _ c.in-Some.ensures.steps _ _ c.loop-call.invariant

pub make_call-requires-clause-slot : goal.make_call-requires-clause-slot
make_call-requires-clause-slot g c =
    omega (
      arith,
      c.loop-call.auto.log,
      enters_within g.L.Lock.form _ _ _ (listed c.args.reader (length c.args.log.now) c.requires.start c.requires.slots) _ _ _ _ c.in-Some.ensures.steps _ _ c.loop-call.invariant,
    )

pub loop-call-preserved : goal.loop-call-preserved
loop-call-preserved g c =
    one_more g.L.Lock.form _ _ _ (listed c.args.reader (length c.args.log.now) c.requires.start c.requires.slots) _ _ _ _ c.in-Some.ensures.steps _ _ c.loop-call.invariant
    c.make_call.new.lock c.make_call.result c.make_call.new.log c.make_call.new.tally c.make_call.ensures.outcome c.make_call.ensures.count c.make_call.ensures.entry

pub returns : goal.returns
returns g c =
    all_made g.L.Lock.form _ _ _ (listed c.args.reader (length c.args.log.now) c.requires.start c.requires.slots) _ _ _ _ c.in-None.ensures.steps.0 c.loop-call.invariant
    c.args.lock.now (search rules) (promises g.met.L.Lock.keeps).economy c.args.reader.bytes.now (all_to_come c.args.reader c.requires.start) c.summary.result c.summary.ensures
