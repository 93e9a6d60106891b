use Rattle.fab_reach_base.proofs.Reached.{path_told}
use Rattle.fab_reach_base.proofs.laws.paths.Goals as goal

pub returns : goal.returns
returns c w x = path_told w x
