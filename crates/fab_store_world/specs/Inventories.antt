-- Rows of inventories as lists, and what one inventory has and another has not.
use Rattle.std.specs.Prelude.{ℕ, ◌≡◌, List, Option, Some}
use Rattle.std.specs.FinMap as map
use Rattle.std.specs.Option.{option_map}
use Rattle.std.specs.declared.cmp.Ordering.{Ordering}
use Rattle.std.specs.Ordering.{nat_cmp}
use Rattle.fab_reach_base.specs.fab_lemmas.Lists.{IsListOf}
use Rattle.fab_reach_base.specs.fab_names.Orders.{name_cmp}
use Rattle.fab_reach_base.specs.fab_inventory.declared.holder.Holder.{Holder}
use Rattle.fab_reach_base.specs.fab_inventory.declared.holder.Volume.{Volume}
use Rattle.fab_reach_base.specs.fab_inventory.declared.port.Known.{Known}
use Rattle.fab_reach_base.specs.fab_inventory.declared.port.Port.{Port}
use Rattle.fab_reach_base.specs.fab_inventory.Ports.{port_of}
use Rattle.fab_reach_base.specs.fab_inventory.Inventories.{InventoryRows}
use Rattle.fab_world.specs.fab_store_rows.declared.inventory_row.PortEntry.{PortEntry}
use Rattle.fab_world.specs.fab_store_rows.declared.inventory_row.AddressRow.{AddressRow}
use Rattle.fab_world.specs.fab_store_rows.declared.inventory_row.HolderRow.{HolderRow}
use Rattle.fab_world.specs.fab_store_rows.declared.inventory_row.VolumeRow.{VolumeRow}
use Rattle.fab_world.specs.fab_store_rows.declared.inventory_row.InventoryRow.{InventoryRow}
use Rattle.fab_world.specs.fab_store_rows.declared.inventory_row.InventoryRow.TheVariants as row
use Rattle.fab_world.specs.fab_store_rows.Standing.{entry_of, IsKnown}
use Rattle.fab_store_world.specs.declared.inventories.InventoryLists.{InventoryLists}
use Rattle.fab_store_world.specs.declared.inventories.InventoryDifference.{InventoryDifference}

-- the whole port of this name
abbrev pub port_row : ℕ → Known → Option Port
port_row name k = Some (port_of name k)

-- the row of the port of this name, and of its address, if it has one
abbrev pub entry_row : ℕ → Known → Option PortEntry
entry_row name k = Some (entry_of name k)

abbrev pub address_row : ℕ → Known → Option AddressRow
address_row name k = option_map (λ a. record { port = name; address = a }) k.address

-- the row of a holder, and of a volume, of this name
abbrev pub holder_row : List ℕ → Holder → HolderRow
holder_row name h = record { name = name; kind = h.kind; tenant = h.tenant }

abbrev pub volume_row : List ℕ → Volume → VolumeRow
volume_row name x = record { name = name; array = x.array; tenant = x.tenant; bytes = x.bytes }

-- by name
abbrev pub port_order : Port → Port → Ordering
port_order a b = nat_cmp a.name b.name

abbrev pub entry_order : PortEntry → PortEntry → Ordering
entry_order a b = nat_cmp a.name b.name

abbrev pub address_order : AddressRow → AddressRow → Ordering
address_order a b = nat_cmp a.port b.port

abbrev pub holder_order : HolderRow → HolderRow → Ordering
holder_order a b = name_cmp a.name b.name

abbrev pub volume_order : VolumeRow → VolumeRow → Ordering
volume_order a b = name_cmp a.name b.name

-- the lists have the rows with P, each once, by name, and no other
pub record AreListsOf {A : Type 0} (P : InventoryRow → Type 0) (lists : InventoryLists A) : Type 0 where
  pub ports : IsListOf port_order (λ r. P (row.Port r)) lists.ports.items
  pub entries : IsListOf entry_order (λ r. P (row.Entry r)) lists.entries.items
  pub addresses : IsListOf address_order (λ r. P (row.Address r)) lists.addresses.items
  pub holders : IsListOf holder_order (λ r. P (row.Holder r)) lists.holders.items
  pub volumes : IsListOf volume_order (λ r. P (row.Volume r)) lists.volumes.items

-- the row stands in the first inventory, and not in the second
pub record IsKnownOnlyIn (v w : InventoryRows) (r : InventoryRow) : Type 0 where
  pub there : IsKnown v r
  pub not_there : ¬ IsKnown w r

-- the lists are the rows that a change of an inventory takes away, and those that it adds
pub record IsInventoryDifference {A : Type 0} (before after : InventoryRows) (change : InventoryDifference A) : Type 0 where
  pub takes : AreListsOf (IsKnownOnlyIn before after) change.taken
  pub adds : AreListsOf (IsKnownOnlyIn after before) change.added

-- the inventories are one, but for what stands under this name among the volumes
pub record AreOneButVolume (v w : InventoryRows) (n : List ℕ) : Type 0 where
  pub ports : v.ports ≡ w.ports
  pub holders : v.holders ≡ w.holders
  pub others : (m : List ℕ) → ¬ (m ≡ n) → map.get v.volumes m ≡ map.get w.volumes m

-- the inventories are one, but for their ports, and for what stands under this name, if there is one,
-- among the holders
pub record AreOneButHolder (v w : InventoryRows) (named : Option (List ℕ)) : Type 0 where
  pub volumes : v.volumes ≡ w.volumes
  pub others : (m : List ℕ) → ¬ (named ≡ Some m) → map.get v.holders m ≡ map.get w.holders m
