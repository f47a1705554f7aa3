-- Each call goes behind those before it. Assumes nothing.
use Rattle.std.proofs.Common.{get_or, refl, ◌∙◌, arith}
use Rattle.std.proofs.lemmas.List.{get_or_default}
use Rattle.record.proofs.Putting.{put_call_more}
use Rattle.record.proofs.writer.put_calls.Goals as goal

pub loop-index-preserved : goal.loop-index-preserved
loop-index-preserved c =
    let calls = c.args.calls.now in
    let call = get_or calls c.loop-index.index (record { kind = 0; place = 0 }) in
    c.put.ensures ∙ put_call_more c.args.buffer.now c.loop-index.buffer calls call _ _ (omega arith) c.loop-index-test.true refl (get_or_default calls _ _ _ c.loop-index-test.true) c.loop-index.invariant
