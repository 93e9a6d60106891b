use Rattle.fab_reach_base.proofs.Lawful.{offered}
use Rattle.fab_reach_base.proofs.laws.path_is_offered.Goals as goal

pub returns : goal.returns
returns c = offered
