use Rattle.fab_names.proofs.InOrder.{members}
use Rattle.fab_names.proofs.laws.members_in_order.Goals as goal

pub returns : goal.returns
returns c = members
