use Rattle.fab_wire_gathering.specs.Rounds.{HasGoneOn}
use Rattle.fab_wire_gathering.proofs.Each.{all_stay}
use Rattle.fab_wire_gathering.proofs.Rounds.{stays}
use Rattle.fab_wire_gathering.proofs.gathering.Gathering.try_all.Goals as goal

pub returns-then-not-has_come-clause-each : goal.returns-then-not-has_come-clause-each
returns-then-not-has_come-clause-each g c = all_stay HasGoneOn c.args.self.now.seats.items stays
