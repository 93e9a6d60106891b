use Rattle.fab_wire_streams.proofs.SentLemmas.{sent-taken}
use Rattle.fab_wire_streams.proofs.counted.Counted.put.Goals as goal

pub loop-rest-preserved : goal.loop-rest-preserved
loop-rest-preserved g c = sent-taken _ _ _ _ _ _ c.in-Ok.taken _ c.loop-rest.rest.now _ c.loop-rest.invariant c.in-Ok.ensures.bytes.2 c.in-Ok.ensures.count c.split_at.ensures.back
