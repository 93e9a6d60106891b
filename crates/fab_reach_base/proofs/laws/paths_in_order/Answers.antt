use Rattle.fab_reach_base.specs.PathOrder.{in_order}
use Rattle.fab_reach_base.proofs.laws.paths_in_order.Goals as goal

pub returns : goal.returns
returns c = in_order
