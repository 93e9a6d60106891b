-- Rows of an inventory are ordered as the keys of their entries are: laws of the trait of its tables.
use Rattle.std.proofs.Common.{ℕ, ◌≡◌, List, Option, None, Some, ap}
use Rattle.std.specs.declared.cmp.Ordering.{Ordering}
use Rattle.std.specs.Ordering.{nat_cmp}
use Rattle.std.specs.Option.{option_map}
use Rattle.fab_reach_base.specs.fab_names.Orders.{name_cmp}
use Rattle.fab_reach_base.specs.fab_inventory.declared.holder.Holder.{Holder}
use Rattle.fab_reach_base.specs.fab_inventory.declared.holder.Volume.{Volume}
use Rattle.fab_reach_base.specs.fab_inventory.declared.port.Known.{Known}
use Rattle.fab_reach_base.specs.fab_inventory.declared.port.Port.{Port}
use Rattle.fab_world.specs.fab_store_rows.declared.inventory_row.PortEntry.{PortEntry}
use Rattle.fab_world.specs.fab_store_rows.declared.inventory_row.AddressRow.{AddressRow}
use Rattle.fab_world.specs.fab_store_rows.declared.inventory_row.HolderRow.{HolderRow}
use Rattle.fab_world.specs.fab_store_rows.declared.inventory_row.VolumeRow.{VolumeRow}
use Rattle.fab_store_world.specs.Inventories.{port_row, entry_row, address_row, holder_row, volume_row, port_order, entry_order, address_order, holder_order, volume_order}

-- rows that have the keys of their entries as names
by_name : {K X R : Type 0} (O : K → K → Ordering) (name : R → K) (row : K → X → Option R) → ((k : K) (v : X) (r : R) → row k v ≡ Some r → name r ≡ k)
    → (j k : K) (v w : X) (r s : R) → row j v ≡ Some r → row k w ≡ Some s → O (name r) (name s) ≡ O j k
by_name O name row named j k v w r s e f = λ i. O (named j v r e i) (named k w s f i)

same : {R : Type 0} (r s : R) → ◌≡◌ {A = Option R} (Some r) (Some s) → s ≡ r
same r s e = cc

pub port_by_key : (j k : ℕ) (v w : Known) (r s : Port) → port_row j v ≡ Some r → port_row k w ≡ Some s → port_order r s ≡ nat_cmp j k
port_by_key = by_name nat_cmp (λ (r : Port). r.name) port_row (λ k v r e. ap (λ (x : Port). x.name) (same _ r e))

pub entry_by_key : (j k : ℕ) (v w : Known) (r s : PortEntry) → entry_row j v ≡ Some r → entry_row k w ≡ Some s → entry_order r s ≡ nat_cmp j k
entry_by_key = by_name nat_cmp (λ (r : PortEntry). r.name) entry_row (λ k v r e. ap (λ (x : PortEntry). x.name) (same _ r e))

address_named : (k : ℕ) (o : Option ℕ) (r : AddressRow) → option_map (λ (a : ℕ). record { port = k; address = a }) o ≡ Some r → r.port ≡ k
address_named k None r e = absurd cc
address_named k (Some a) r e = ap (λ (x : AddressRow). x.port) (same _ r e)

pub address_by_key : (j k : ℕ) (v w : Known) (r s : AddressRow) → address_row j v ≡ Some r → address_row k w ≡ Some s → address_order r s ≡ nat_cmp j k
address_by_key = by_name nat_cmp (λ (r : AddressRow). r.port) address_row (λ k v r e. address_named k v.address r e)

pub holder_by_key : (j k : List ℕ) (v w : Holder) (r s : HolderRow) → ◌≡◌ {A = Option HolderRow} (Some (holder_row j v)) (Some r) → ◌≡◌ {A = Option HolderRow} (Some (holder_row k w)) (Some s) → holder_order r s ≡ name_cmp j k
holder_by_key = by_name name_cmp (λ (r : HolderRow). r.name) (λ n h. Some (holder_row n h)) (λ k v r e. ap (λ (x : HolderRow). x.name) (same _ r e))

pub volume_by_key : (j k : List ℕ) (v w : Volume) (r s : VolumeRow) → ◌≡◌ {A = Option VolumeRow} (Some (volume_row j v)) (Some r) → ◌≡◌ {A = Option VolumeRow} (Some (volume_row k w)) (Some s) → volume_order r s ≡ name_cmp j k
volume_by_key = by_name name_cmp (λ (r : VolumeRow). r.name) (λ n x. Some (volume_row n x)) (λ k v r e. ap (λ (x : VolumeRow). x.name) (same _ r e))
