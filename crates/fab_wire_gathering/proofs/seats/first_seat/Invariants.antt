use Rattle.fab_wire_gathering.proofs.Seating.{SoFar}
use Rattle.fab_wire_gathering.proofs.seats.first_seat.Given as goal

abbrev pub invariant-loop-place : goal.invariant-loop-place
invariant-loop-place g l = SoFar g.met.K.Ord.total (g.M.Measure.has l.measure) l.seats l.place l.first
