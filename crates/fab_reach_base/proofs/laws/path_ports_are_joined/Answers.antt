use Rattle.fab_reach_base.proofs.Lawful.{joined}
use Rattle.fab_reach_base.proofs.laws.path_ports_are_joined.Goals as goal

pub returns : goal.returns
returns c = joined
