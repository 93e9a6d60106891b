use Rattle.fab_wire_gathering.specs.Ends.{AreGivenUp}
use Rattle.fab_wire_gathering.specs.Inner.Takers.{takers_in}
use Rattle.std.proofs.Common.{ℕ}
use Rattle.fab_wire_gathering.proofs.Order.{order}
use Rattle.fab_wire_gathering.proofs.gathering.Gathering.make_room.Given as goal

abbrev pub invariant-loop-self : goal.invariant-loop-self
invariant-loop-self l = (count : ℕ) × AreGivenUp order count l.fn.self.seats.items l.self.seats.items

abbrev pub decreases-loop-self : goal.decreases-loop-self
decreases-loop-self l = takers_in l.self.seats.items
