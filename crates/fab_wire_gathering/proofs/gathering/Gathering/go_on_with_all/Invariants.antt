use Rattle.fab_wire_gathering.specs.Rounds.{HasGoneOn}
use Rattle.fab_wire_gathering.proofs.Each.{HaveGoneOn}
use Rattle.fab_wire_gathering.proofs.gathering.Gathering.go_on_with_all.Given as goal

abbrev pub invariant-loop-place : goal.invariant-loop-place
invariant-loop-place g l = HaveGoneOn HasGoneOn l.fn.self.seats.items l.place l.seat-items
