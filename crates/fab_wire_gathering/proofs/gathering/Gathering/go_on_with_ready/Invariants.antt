use Rattle.fab_wire_gathering.specs.Rounds.{EachGoesOn, HasGoneOn}
use Rattle.fab_wire_gathering.proofs.gathering.Gathering.go_on_with_ready.Given as goal

abbrev pub invariant-loop-event : goal.invariant-loop-event
invariant-loop-event g l = EachGoesOn HasGoneOn l.fn.self.seats.items l.self.1.1.0.items
