use Rattle.fab_names.proofs.InOrder.{fabrics}
use Rattle.fab_names.proofs.laws.fabrics_in_order.Goals as goal

pub returns : goal.returns
returns c = fabrics
