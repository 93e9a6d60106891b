use Rattle.std.proofs.Common.{refl}
use Rattle.std.specs.FinMap as map
use Rattle.fab_world.specs.fab_store_rows.declared.inventory_row.InventoryRow.TheVariants as row
use Rattle.fab_store_world.specs.Inventories.{IsKnownOnlyIn, volume_order}
use Rattle.fab_store_world.proofs.InventoryTables.{ports_told, entries_told, addresses_told}
use Rattle.std.specs.Option.{option_copied}
use Rattle.fab_store_world.proofs.OneHolder.{at_most_one, no_volume}
use Rattle.fab_store_world.proofs.OneVolume.{empty_list}
use Rattle.fab_store_world.proofs.holders.lists_only_at.Goals as goal

pub returns : goal.returns
returns g c =
    let v = c.args.inventory.now in
    let w = c.args.other.now in
    record {
      ports = ports_told v w (map.entries v.ports) c.add_ports.new.ports.items refl c.in_ok-add_ports.ensures.ports;
      entries = entries_told v w (map.entries v.ports) c.add_ports.new.entries.items refl c.in_ok-add_ports.ensures.entries;
      addresses = addresses_told v w (map.entries v.ports) c.add_ports.new.addresses.items refl c.in_ok-add_ports.ensures.addresses;
      holders = at_most_one v w (option_copied c.args.named) c.requires c.row_at.result c.new-holders.result.items c.push_lacking.new.rows.items c.row_at.ensures c.new-holders.ensures.items c.in_ok-push_lacking.ensures;
      volumes = empty_list volume_order (λ r. IsKnownOnlyIn v w (row.Volume r)) c.new.result.items c.new.ensures.items (no_volume v w (option_copied c.args.named) c.requires);
    }
