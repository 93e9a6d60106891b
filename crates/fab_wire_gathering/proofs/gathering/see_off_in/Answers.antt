use Rattle.std.specs.Time.{instant_nanos}
use Rattle.fab_wire_gathering.specs.Rounds.{IsSeenOff}
use Rattle.fab_wire_gathering.proofs.Rounds.{some_goes_on}
use Rattle.fab_wire_gathering.proofs.gathering.see_off_in.Goals as goal

pub returns-in-Some : goal.returns-in-Some
returns-in-Some c = some_goes_on (IsSeenOff (instant_nanos c.args.now)) c.args.seat.now c.in-Some.guest c.see_off.new.guest c.in-Some.is c.see_off.ensures
