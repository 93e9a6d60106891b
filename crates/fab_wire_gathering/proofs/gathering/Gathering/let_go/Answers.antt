use Rattle.std.proofs.Common.{subst}
use Rattle.fab_wire_gathering.specs.Seats.{Seats, SameSeats}
use Rattle.fab_wire_gathering.proofs.gathering.Gathering.let_go.Goals as goal

pub returns : goal.returns
returns c = subst (λ (seats : Seats). SameSeats seats c.forget_free.new.self.seats.items) c.free_gone.ensures c.forget_free.ensures
