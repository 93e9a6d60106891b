use Rattle.fab_world.specs.fab_store_rows.declared.inventory_row.InventoryRow.TheVariants as row
use Rattle.fab_store_world.specs.Inventories.{IsKnownOnlyIn, port_order, entry_order, address_order, holder_order}
use Rattle.fab_store_world.proofs.OneVolume.{empty_list, no_port, no_entry, no_address, no_holder, at_most_one}
use Rattle.fab_store_world.proofs.volumes.lists_only_at.Goals as goal

pub returns : goal.returns
returns g c =
    let v = c.args.inventory.now in
    let w = c.args.other.now in
    let n = c.args.name.now in
    record {
      ports = empty_list port_order (λ r. IsKnownOnlyIn v w (row.Port r)) c.new.result.items c.new.ensures.items (no_port v w n c.requires);
      entries = empty_list entry_order (λ r. IsKnownOnlyIn v w (row.Entry r)) c.new-2.result.items c.new-2.ensures.items (no_entry v w n c.requires);
      addresses = empty_list address_order (λ r. IsKnownOnlyIn v w (row.Address r)) c.new-3.result.items c.new-3.ensures.items (no_address v w n c.requires);
      holders = empty_list holder_order (λ r. IsKnownOnlyIn v w (row.Holder r)) c.new-4.result.items c.new-4.ensures.items (no_holder v w n c.requires);
      volumes = at_most_one v w n c.requires c.row_at.result c.new-volumes.result.items c.push_lacking.new.rows.items c.row_at.ensures c.new-volumes.ensures.items c.in_ok-push_lacking.ensures;
    }
