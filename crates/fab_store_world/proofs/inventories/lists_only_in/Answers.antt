use Rattle.std.proofs.Common.{List, ℕ, refl, sym, subst}
use Rattle.std.specs.FinMap as map
use Rattle.std.specs.List.Sorted.{IsStrictlySortedBy}
use Rattle.std.specs.Map.{keys_of}
use Rattle.fab_reach_base.proofs.fab_lemmas.SeenEntries.{sorted}
use Rattle.fab_reach_base.specs.fab_names.Orders.{name_cmp}
use Rattle.fab_reach_base.specs.fab_inventory.declared.holder.Holder.{Holder}
use Rattle.fab_reach_base.specs.fab_inventory.declared.holder.Volume.{Volume}
use Rattle.fab_store_world.proofs.InventoryTables.{ports_told, entries_told, addresses_told, holders_told, volumes_told}
use Rattle.fab_store_world.proofs.inventories.lists_only_in.Goals as goal

pub rows_without-requires : goal.rows_without-requires
rows_without-requires g c =
    let known = c.args.inventory.now.holders in
    subst (λ (es : List (List ℕ × Holder)). IsStrictlySortedBy name_cmp (keys_of es)) (sym c.holders.ensures) (sorted name_cmp (map.entries known) (map.entries_sorted known))

pub rows_without-requires-2 : goal.rows_without-requires-2
rows_without-requires-2 g c =
    let known = c.args.inventory.now.volumes in
    subst (λ (es : List (List ℕ × Volume)). IsStrictlySortedBy name_cmp (keys_of es)) (sym c.volumes.ensures) (sorted name_cmp (map.entries known) (map.entries_sorted known))

pub returns : goal.returns
returns g c =
    let v = c.args.inventory.now in
    let w = c.args.other.now in
    record {
      ports = ports_told v w (map.entries v.ports) c.add_ports.new.ports.items refl c.in_ok-add_ports.ensures.ports;
      entries = entries_told v w (map.entries v.ports) c.add_ports.new.entries.items refl c.in_ok-add_ports.ensures.entries;
      addresses = addresses_told v w (map.entries v.ports) c.add_ports.new.addresses.items refl c.in_ok-add_ports.ensures.addresses;
      holders = holders_told v w c.holders.result c.in_ok-holders.holders.items c.holders.ensures c.in_ok-holders.ensures;
      volumes = volumes_told v w c.volumes.result c.in_ok-volumes.volumes.items c.volumes.ensures c.in_ok-volumes.ensures;
    }
