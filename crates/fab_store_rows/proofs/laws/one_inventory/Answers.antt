use Rattle.fab_store_rows.proofs.Determined.{one_inventory}
use Rattle.fab_store_rows.proofs.laws.one_inventory.Goals as goal

pub returns : goal.returns
returns c = one_inventory
