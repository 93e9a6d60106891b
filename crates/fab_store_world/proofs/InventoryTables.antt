-- The tables of an inventory, and the rows of their entries.
use Rattle.std.proofs.Common.{◌≡◌, ℕ, List, Contains, Option, None, Some, refl, sym, ap, subst}
use Rattle.std.specs.declared.cmp.Ordering.{Ordering}
use Rattle.std.specs.Cmp.{IsTotalOrder, nat_cmp_total}
use Rattle.std.specs.FinMap as map
use Rattle.std.specs.FinSet as set
use Rattle.std.specs.Option.{option_map, option_and_then}
use Rattle.std.proofs.lemmas.Cmp.{on_total}
use Rattle.fab_reach_base.specs.fab_lemmas.Lists.{IsListOf}
use Rattle.fab_reach_base.proofs.fab_lemmas.Filters.{list_as}
use Rattle.fab_reach_base.proofs.fab_lemmas.SeenEntries.{entry_decides}
use Rattle.fab_reach_base.proofs.fab_names.OrderLaws.{name_total, name_exact}
use Rattle.fab_reach_base.specs.fab_inventory.declared.holder.Holder.{Holder}
use Rattle.fab_reach_base.specs.fab_inventory.declared.holder.Volume.{Volume}
use Rattle.fab_reach_base.specs.fab_inventory.declared.port.Known.{Known}
use Rattle.fab_reach_base.specs.fab_inventory.declared.port.Port.{Port}
use Rattle.fab_reach_base.specs.fab_inventory.Inventories.{InventoryRows}
use Rattle.fab_reach_base.specs.fab_inventory.Ports.{port_at, port_of}
use Rattle.fab_world.specs.fab_store_rows.declared.inventory_row.PortEntry.{PortEntry}
use Rattle.fab_world.specs.fab_store_rows.declared.inventory_row.AddressRow.{AddressRow}
use Rattle.fab_world.specs.fab_store_rows.declared.inventory_row.HolderRow.{HolderRow}
use Rattle.fab_world.specs.fab_store_rows.declared.inventory_row.InventoryRow.{InventoryRow}
use Rattle.fab_world.specs.fab_store_rows.declared.inventory_row.InventoryRow.TheVariants as row
use Rattle.fab_world.specs.fab_store_rows.declared.inventory_row.VolumeRow.{VolumeRow}
use Rattle.fab_world.specs.fab_store_rows.Standing.{IsKnown, entry_of, entry_at, address_at, holder_of, volume_of}
use Rattle.fab_store_world.specs.Inventories.{IsKnownOnlyIn, port_order, port_row, entry_order, entry_row, address_order, address_row, holder_order, holder_row, volume_order, volume_row}
use Rattle.fab_store_world.specs.InventoryGathering.{IsRowOfEntries}

pub entries_total : IsTotalOrder entry_order
entries_total = on_total (λ (r : PortEntry). r.name) nat_cmp_total

pub addresses_total : IsTotalOrder address_order
addresses_total = on_total (λ (r : AddressRow). r.port) nat_cmp_total

pub holders_total : IsTotalOrder holder_order
holders_total = on_total (λ (r : HolderRow). r.name) name_total

pub volumes_total : IsTotalOrder volume_order
volumes_total = on_total (λ (r : VolumeRow). r.name) name_total

-- ---- one table

-- the row of an entry of the map stands, and a row that stands is that of an entry
module _ {K X R : Type 0} {O : K → K → Ordering} (o : IsTotalOrder O) (exact : set.IsAntisymmetric O) {N : R → R → Ordering} (row : K → X → Option R) (m : map.FinMap O X) (v w : InventoryRows) (kind : R → InventoryRow)
    (to : (k : K) (x : X) (r : R) → map.get m k ≡ Some x → row k x ≡ Some r → IsKnown v (kind r)) (from : (r : R) → IsKnown v (kind r) → (e : K × X) × (map.get m e.0 ≡ Some e.1) × (row e.0 e.1 ≡ Some r)) where
  table_told : (es : List (K × X)) (xs : List R) → es ≡ map.entries m → IsListOf N (IsRowOfEntries row (λ r. ¬ IsKnown w (kind r)) es) xs → IsListOf N (λ r. IsKnownOnlyIn v w (kind r)) xs
  table_told es xs is =
      list_as (IsRowOfEntries row (λ r. ¬ IsKnown w (kind r)) es) (λ r. IsKnownOnlyIn v w (kind r)) xs
      (λ r h.
      let at = (entry_decides O o exact m h.0.0 h.0.1).1 (subst (λ ys. Contains ys h.0) is h.1) in
      record { there = to h.0.0 h.0.1 r at h.2.1; not_there = h.2.0 })
      (λ r h.
      let e = from r h.there in
      (e.0, subst (λ ys. Contains ys e.0) (sym is) ((entry_decides O o exact m e.0.0 e.0.1).0 e.1), (h.not_there, e.2)))

one : {R : Type 0} (r s : R) → ◌≡◌ {A = Option R} (Some r) (Some s) → r ≡ s
one r s e = cc

-- ---- each table
module _ (v : InventoryRows) where
  to_port : (k : ℕ) (x : Known) (r : Port) → map.get v.ports k ≡ Some x → port_row k x ≡ Some r → IsKnown v (row.Port r)
  to_port k x r at is = subst (λ (p : Port). port_at v.ports p.name ≡ Some p) (one (port_of k x) r is) (ap (option_map (port_of k)) at)

  from_port : (r : Port) → IsKnown v (row.Port r) → (e : ℕ × Known) × (map.get v.ports e.0 ≡ Some e.1) × (port_row e.0 e.1 ≡ Some r)
  from_port r = by (map.get v.ports r.name) refl
    where
      by : (o : Option Known) → map.get v.ports r.name ≡ o → option_map (port_of r.name) o ≡ Some r → (e : ℕ × Known) × (map.get v.ports e.0 ≡ Some e.1) × (port_row e.0 e.1 ≡ Some r)
      by None at h = absurd cc
      by (Some k) at h = ((r.name, k), at, h)

  to_entry : (k : ℕ) (x : Known) (r : PortEntry) → map.get v.ports k ≡ Some x → entry_row k x ≡ Some r → IsKnown v (row.Entry r)
  to_entry k x r at is = subst (λ (p : PortEntry). entry_at v.ports p.name ≡ Some p) (one (entry_of k x) r is) (ap (option_map (entry_of k)) at)

  from_entry : (r : PortEntry) → IsKnown v (row.Entry r) → (e : ℕ × Known) × (map.get v.ports e.0 ≡ Some e.1) × (entry_row e.0 e.1 ≡ Some r)
  from_entry r = by (map.get v.ports r.name) refl
    where
      by : (o : Option Known) → map.get v.ports r.name ≡ o → option_map (entry_of r.name) o ≡ Some r → (e : ℕ × Known) × (map.get v.ports e.0 ≡ Some e.1) × (entry_row e.0 e.1 ≡ Some r)
      by None at h = absurd cc
      by (Some k) at h = ((r.name, k), at, h)

  to_address : (k : ℕ) (x : Known) (r : AddressRow) → map.get v.ports k ≡ Some x → address_row k x ≡ Some r → IsKnown v (row.Address r)
  to_address k x r at = by x.address (ap (option_and_then (λ (y : Known). y.address)) at)
    where
      by : (o : Option ℕ) → address_at v.ports k ≡ o → option_map (λ (a : ℕ). record { port = k; address = a }) o ≡ Some r → IsKnown v (row.Address r)
      by None has is = absurd cc
      by (Some a) has is = subst (λ (q : AddressRow). address_at v.ports q.port ≡ Some q.address) (one (record { port = k; address = a }) r is) has

  from_address : (r : AddressRow) → IsKnown v (row.Address r) → (e : ℕ × Known) × (map.get v.ports e.0 ≡ Some e.1) × (address_row e.0 e.1 ≡ Some r)
  from_address r = by (map.get v.ports r.port) refl
    where
      by : (o : Option Known) → map.get v.ports r.port ≡ o → option_and_then (λ (y : Known). y.address) o ≡ Some r.address → (e : ℕ × Known) × (map.get v.ports e.0 ≡ Some e.1) × (address_row e.0 e.1 ≡ Some r)
      by None at h = absurd cc
      by (Some k) at h = ((r.port, k), at, ap (option_map (λ (a : ℕ). record { port = r.port; address = a })) h)

  to_holder : (k : List ℕ) (x : Holder) (r : HolderRow) → map.get v.holders k ≡ Some x → ◌≡◌ {A = Option HolderRow} (Some (holder_row k x)) (Some r) → IsKnown v (row.Holder r)
  to_holder k x r at is = subst (λ (p : HolderRow). map.get v.holders p.name ≡ Some (holder_of p)) (one (holder_row k x) r is) at

  to_volume : (k : List ℕ) (x : Volume) (r : VolumeRow) → map.get v.volumes k ≡ Some x → ◌≡◌ {A = Option VolumeRow} (Some (volume_row k x)) (Some r) → IsKnown v (row.Volume r)
  to_volume k x r at is = subst (λ (p : VolumeRow). map.get v.volumes p.name ≡ Some (volume_of p)) (one (volume_row k x) r is) at

module _ (v w : InventoryRows) where
  pub ports_told : (es : List (ℕ × Known)) (xs : List Port) → es ≡ map.entries v.ports → IsListOf port_order (IsRowOfEntries port_row (λ r. ¬ IsKnown w (row.Port r)) es) xs → IsListOf port_order (λ r. IsKnownOnlyIn v w (row.Port r)) xs
  ports_told = table_told nat_cmp_total set.nat_cmp-IsAntisymmetric port_row v.ports v w row.Port (to_port v) (from_port v)

  pub entries_told : (es : List (ℕ × Known)) (xs : List PortEntry) → es ≡ map.entries v.ports → IsListOf entry_order (IsRowOfEntries entry_row (λ r. ¬ IsKnown w (row.Entry r)) es) xs → IsListOf entry_order (λ r. IsKnownOnlyIn v w (row.Entry r)) xs
  entries_told = table_told nat_cmp_total set.nat_cmp-IsAntisymmetric entry_row v.ports v w row.Entry (to_entry v) (from_entry v)

  pub addresses_told : (es : List (ℕ × Known)) (xs : List AddressRow) → es ≡ map.entries v.ports → IsListOf address_order (IsRowOfEntries address_row (λ r. ¬ IsKnown w (row.Address r)) es) xs → IsListOf address_order (λ r. IsKnownOnlyIn v w (row.Address r)) xs
  addresses_told = table_told nat_cmp_total set.nat_cmp-IsAntisymmetric address_row v.ports v w row.Address (to_address v) (from_address v)

  pub holders_told : (es : List (List ℕ × Holder)) (xs : List HolderRow) → es ≡ map.entries v.holders → IsListOf holder_order (IsRowOfEntries (λ n h. Some (holder_row n h)) (λ r. ¬ IsKnown w (row.Holder r)) es) xs → IsListOf holder_order (λ r. IsKnownOnlyIn v w (row.Holder r)) xs
  holders_told = table_told name_total name_exact (λ n h. Some (holder_row n h)) v.holders v w row.Holder (to_holder v) (λ r h. ((r.name, holder_of r), h, refl))

  pub volumes_told : (es : List (List ℕ × Volume)) (xs : List VolumeRow) → es ≡ map.entries v.volumes → IsListOf volume_order (IsRowOfEntries (λ n x. Some (volume_row n x)) (λ r. ¬ IsKnown w (row.Volume r)) es) xs → IsListOf volume_order (λ r. IsKnownOnlyIn v w (row.Volume r)) xs
  volumes_told = table_told name_total name_exact (λ n x. Some (volume_row n x)) v.volumes v w row.Volume (to_volume v) (λ r h. ((r.name, volume_of r), h, refl))
