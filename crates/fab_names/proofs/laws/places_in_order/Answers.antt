use Rattle.fab_names.proofs.InOrder.{places}
use Rattle.fab_names.proofs.laws.places_in_order.Goals as goal

pub returns : goal.returns
returns c = places
