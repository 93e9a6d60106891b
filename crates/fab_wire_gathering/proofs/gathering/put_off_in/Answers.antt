use Rattle.std.specs.Duration.{as_nanos}
use Rattle.fab_wire_gathering.specs.Rounds.{IsPutOff}
use Rattle.fab_wire_gathering.proofs.Rounds.{some_goes_on}
use Rattle.fab_wire_gathering.proofs.gathering.put_off_in.Goals as goal

pub returns-in-Some : goal.returns-in-Some
returns-in-Some c = some_goes_on (IsPutOff (as_nanos c.args.by)) c.args.seat.now c.in-Some.guest c.put_off.new.self c.in-Some.is (c.put_off.new.self.deadline, c.put_off.ensures.end, c.put_off.ensures.rest)
