use Rattle.std.specs.Time.{instant_nanos}
use Rattle.fab_wire_gathering.specs.Rounds.{IsTimed}
use Rattle.fab_wire_gathering.proofs.Rounds.{some_goes_on}
use Rattle.fab_wire_gathering.proofs.gathering.give_up_late_in.Goals as goal

pub returns-in-Some : goal.returns-in-Some
returns-in-Some c = some_goes_on (IsTimed (instant_nanos c.args.now)) c.args.seat.now c.in-Some.guest c.give_up_if_late.new.guest c.in-Some.is c.give_up_if_late.ensures
