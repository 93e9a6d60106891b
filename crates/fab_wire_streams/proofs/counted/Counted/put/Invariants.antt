use Rattle.std.proofs.Common.{length}
use Rattle.fab_wire_streams.proofs.SentLemmas.{SentTo}
use Rattle.fab_wire_streams.proofs.counted.Counted.put.Given as goal

abbrev pub invariant-loop-rest : goal.invariant-loop-rest
invariant-loop-rest g l = SentTo (g.W.Write.contents l.fn.self.inner) (g.W.Write.contents l.self.inner) l.fn.self.failures l.self.failures l.fn.text l.rest

abbrev pub decreases-loop-rest : goal.decreases-loop-rest
decreases-loop-rest g l = length l.rest
