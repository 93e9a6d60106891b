use Rattle.std.specs.Time.{instant_nanos}
use Rattle.fab_wire_gathering.specs.Rounds.{IsTimed}
use Rattle.fab_wire_gathering.proofs.Each.{HaveGoneOn}
use Rattle.fab_wire_gathering.proofs.gathering.Gathering.give_up_late.Given as goal

abbrev pub invariant-loop-seat : goal.invariant-loop-seat
invariant-loop-seat l = HaveGoneOn (IsTimed (instant_nanos l.fn.now)) l.fn.self.seats.items l.seat-index l.seat-items
