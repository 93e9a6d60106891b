use Rattle.std.proofs.Common.{◌≡◌}
use Rattle.fab_wire_deadlines.specs.Deadlines.{end_at}
use Rattle.fab_wire_serving.proofs.connection.take_rest.Given as goal

abbrev pub invariant-loop : goal.invariant-loop
invariant-loop g l = end_at l.timed ≡ end_at l.fn.timed
