use Rattle.std.specs.Time.{instant_nanos}
use Rattle.fab_wire_gathering.specs.Rounds.{IsSeenOff}
use Rattle.fab_wire_gathering.proofs.Each.{HaveGoneOn}
use Rattle.fab_wire_gathering.proofs.gathering.Gathering.see_off.Given as goal

abbrev pub invariant-loop-place : goal.invariant-loop-place
invariant-loop-place l = HaveGoneOn (IsSeenOff (instant_nanos l.fn.now)) l.fn.self.seats.items l.place l.seat-items
