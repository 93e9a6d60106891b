use Rattle.std.proofs.Common.{◌≡◌}
use Rattle.std.specs.Time.{instant_nanos}
use Rattle.fab_wire_gathering.proofs.Ends.{EndsSoFar}
use Rattle.fab_wire_gathering.proofs.gathering.Gathering.next_end.Given as goal

abbrev pub invariant-loop-seat : goal.invariant-loop-seat
invariant-loop-seat l = (l.seat-items ≡ l.self.seats.items) × EndsSoFar l.is_crowded (instant_nanos l.self.tried) l.self.seats.items l.seat-index (instant_nanos l.first)
