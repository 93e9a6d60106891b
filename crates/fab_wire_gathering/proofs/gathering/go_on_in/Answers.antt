use Rattle.fab_wire_gathering.specs.Rounds.{HasGoneOn}
use Rattle.fab_wire_gathering.proofs.Rounds.{some_goes_on}
use Rattle.fab_wire_gathering.proofs.gathering.go_on_in.Goals as goal

pub returns-in-Some : goal.returns-in-Some
returns-in-Some g c = some_goes_on HasGoneOn c.args.seat.now c.in-Some.guest c.go_on.new.guest c.in-Some.is c.go_on.ensures.on
