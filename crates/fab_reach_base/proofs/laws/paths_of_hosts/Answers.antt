use Rattle.fab_reach_base.proofs.Reached.{path_of_told}
use Rattle.fab_reach_base.proofs.laws.paths_of_hosts.Goals as goal

pub returns : goal.returns
returns c w host x = path_of_told w host x
