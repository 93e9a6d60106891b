use Rattle.std.specs.Duration.{as_nanos}
use Rattle.fab_wire_gathering.specs.Rounds.{IsPutOff}
use Rattle.fab_wire_gathering.proofs.Each.{HaveGoneOn}
use Rattle.fab_wire_gathering.proofs.gathering.Gathering.put_off.Given as goal

abbrev pub invariant-loop-seat : goal.invariant-loop-seat
invariant-loop-seat l = HaveGoneOn (IsPutOff (as_nanos l.fn.by)) l.fn.self.seats.items l.seat-index l.seat-items
