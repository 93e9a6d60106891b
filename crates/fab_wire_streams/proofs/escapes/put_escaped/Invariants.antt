use Rattle.std.proofs.Common.{length}
use Rattle.fab_wire_streams.specs.Escapes.{escapes_json}
use Rattle.fab_wire_streams.proofs.Turns.{Gone}
use Rattle.fab_wire_streams.proofs.escapes.put_escaped.Given as goal

abbrev pub invariant-loop-rest : goal.invariant-loop-rest
invariant-loop-rest g l = Gone g.S.Sink.took l.fn.sink l.sink (escapes_json l.fn.text) (escapes_json l.rest)

abbrev pub decreases-loop-rest : goal.decreases-loop-rest
decreases-loop-rest g l = length l.rest
