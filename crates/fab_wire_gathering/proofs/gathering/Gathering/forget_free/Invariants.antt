use Rattle.fab_wire_gathering.specs.Seats.{SameSeats}
use Rattle.fab_wire_gathering.proofs.gathering.Gathering.forget_free.Given as goal

abbrev pub invariant-loop : goal.invariant-loop
invariant-loop l = SameSeats l.fn.self.seats.items l.self.seats.items
