use Rattle.fab_wire_streams.proofs.SentLemmas.{sent-text, sent-text-part}
use Rattle.fab_wire_streams.proofs.counted.Counted.put_all.Goals as goal

pub returns-in_default-clause-err : goal.returns-in_default-clause-err
returns-in_default-clause-err g c = sent-text-part (λ text. text.now) _ _ _ _ _ _ c.args.texts.now c.loop-text.text-index _ c.loop-text.invariant c.loop-text-test.true c.in_default.ensures.err

pub loop-text-preserved : goal.loop-text-preserved
loop-text-preserved g c = sent-text (λ text. text.now) _ _ _ _ _ _ _ c.args.texts.now c.loop-text.text-index _ c.loop-text.invariant c.loop-text-test.true c.in-Ok.ensures.ok c.in-Ok.ensures.count
