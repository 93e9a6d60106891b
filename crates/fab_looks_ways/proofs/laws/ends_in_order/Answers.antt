use Rattle.fab_looks_ways.proofs.EndsOrder.{in_order}
use Rattle.fab_looks_ways.proofs.laws.ends_in_order.Goals as goal

pub returns : goal.returns
returns c = in_order
