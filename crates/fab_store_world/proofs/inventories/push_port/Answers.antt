use Rattle.std.proofs.Common.{subst}
use Rattle.fab_world.specs.fab_store_rows.declared.inventory_row.InventoryRow.TheVariants as row
use Rattle.fab_world.specs.fab_store_rows.Standing.{IsKnown}
use Rattle.fab_store_world.specs.InventoryGathering.{IsPushed}
use Rattle.fab_store_world.proofs.inventories.push_port.Goals as goal

pub returns-clause-entries : goal.returns-clause-entries
returns-clause-entries g c = subst (λ found. IsPushed (λ r. ¬ IsKnown c.args.other.now (row.Entry r)) found c.args.entries.now.items c.push_lacking-2.new.rows.items) c.row-2.ensures c.in_ok-push_lacking-2.ensures
