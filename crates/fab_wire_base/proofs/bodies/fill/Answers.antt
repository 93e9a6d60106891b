use Rattle.std.proofs.Common.{arith}
use Rattle.fab_wire_base.proofs.BodyLemmas.{filled-more}
use Rattle.fab_wire_base.proofs.bodies.fill.Goals as goal

pub loop-filled-preserved : goal.loop-filled-preserved
loop-filled-preserved g c = filled-more _ _ _ _ _ _ c.loop-filled.filled c.in-Ok.given _ _ c.loop-filled.invariant (omega arith) c.in-Ok.ensures.front c.in-Ok.ensures.bytes.0 c.in-Ok.ensures.bytes.1 c.in-Ok.ensures.count
