-- Inventories by their rows.
use Rattle.std.proofs.Common.{ℕ, ◌≡◌, List, Option, None, Some, sym, ap, ◌∙◌, subst, refl, MatchOption}
use Rattle.std.specs.declared.cmp.Ordering.{Ordering}
use Rattle.std.specs.BTreeMap as tree
use Rattle.std.specs.BTreeMap.{BTreeMap}
use Rattle.std.specs.Cmp.{IsTotalOrder, nat_cmp_total}
use Rattle.std.specs.FinMap as map
use Rattle.std.specs.FinSet as set
use Rattle.std.specs.Ordering.{nat_cmp}
use Rattle.fab_names.specs.Orders.{name_cmp}
use Rattle.fab_names.proofs.OrderLaws.{name_total, name_exact}
use Rattle.fab_reach_base.specs.fab_inventory.declared.port.Seat.{Seat}
use Rattle.fab_reach_base.specs.fab_inventory.declared.holder.Holder.{Holder}
use Rattle.fab_reach_base.specs.fab_inventory.declared.holder.Volume.{Volume}
use Rattle.fab_reach_base.specs.fab_inventory.declared.fault.RestoreFault.{RestoreFault}
use Rattle.fab_reach_base.specs.fab_inventory.declared.fault.RestoreFault.TheVariants as restore
use Rattle.fab_reach_base.specs.fab_inventory.Inventories.{InventoryRows, IsSound}
use Rattle.fab_reach_base.specs.fab_inventory.Restores.{ArePortsSound, AreAddressesSound, AreHoldersSound, AreVolumesSound, AreSeated, IsRestored, RestoreFails}
use Rattle.fab_reach_base.proofs.fab_inventory.Restoring.{parts_of_sound}
use Rattle.fab_reach_base.proofs.fab_lemmas.SeenMaps.{same_look_ups}
use Rattle.fab_store_rows.specs.declared.inventory_row.PortEntry.{PortEntry}
use Rattle.fab_store_rows.specs.declared.inventory_row.AddressRow.{AddressRow}
use Rattle.fab_store_rows.specs.declared.inventory_row.HolderRow.{HolderRow}
use Rattle.fab_store_rows.specs.declared.inventory_row.VolumeRow.{VolumeRow}
use Rattle.fab_store_rows.specs.declared.inventory_row.InventoryRow.TheVariants as row
use Rattle.fab_store_rows.specs.Standing.{IsKnown}
use Rattle.fab_store_load.specs.Rows.{AreRows, HasRepeat, StandsIn}
use Rattle.fab_store_load.specs.Kinds.{Named, port_row, address_row, holder_row, volume_row}
use Rattle.fab_store_load.specs.Faults.{OfTable}
use Rattle.fab_store_load.specs.Inventories.{AreAll, AreInventoryRows, InventoryPartIsSound, load_fault}
use Rattle.fab_store_load.proofs.Saying.{one_look_up}
use Rattle.fab_store_load.proofs.PortRows.{entries_of_made, addresses_of_made, only_seated, are_seated}

-- what `map_of` gives, where it gives a map or none
module _ {R K X : Type 0} (O : K → K → Ordering) (row_of : K × X → R) (rows : List R) where
  abbrev pub Finds : Option (BTreeMap K X) → Type 0
  Finds o = MatchOption o (HasRepeat row_of rows) (λ t. AreRows row_of rows (StandsIn (tree.get O t)))

  pub found : (o : Option (BTreeMap K X)) (t : BTreeMap K X) → o ≡ Some t → Finds o → AreRows row_of rows (StandsIn (tree.get O t))
  found o t is h = subst Finds is h

  pub not_found : (o : Option (BTreeMap K X)) → o ≡ None → Finds o → HasRepeat row_of rows
  not_found o is h = subst Finds is h

  -- a finite map with these rows is the one that was made
  pub one_map : IsTotalOrder O → set.IsAntisymmetric O → (t : BTreeMap K X) (m : map.FinMap O X) → AreRows row_of rows (StandsIn (tree.get O t)) → AreRows row_of rows (StandsIn (map.get m)) → m ≡ map.from_entries t.entries
  one_map o exact t m h k = map.same_map o exact m (map.from_entries t.entries) (λ q. one_look_up row_of rows (map.get m) (tree.get O t) k h q ∙ ap (λ (f : K → Option X). f q) (same_look_ups o t (map.from_entries t.entries) refl))

  -- and has them
  pub made_has : IsTotalOrder O → (t : BTreeMap K X) → AreRows row_of rows (StandsIn (tree.get O t)) → AreRows row_of rows (StandsIn (map.get {R = O} (map.from_entries t.entries)))
  made_has o t h = subst (λ f. AreRows row_of rows (StandsIn f)) (same_look_ups o t (map.from_entries t.entries) refl) h

-- rows that are all those of a table, as entries, and back
module _ (v : InventoryRows) where
  pub holders_say : (rows : List HolderRow) → AreAll rows (λ r. IsKnown v (row.Holder r)) → AreRows holder_row rows (StandsIn (map.get v.holders))
  holders_say rows all = record { sound = λ e. (all (holder_row e)).0; complete = λ e. (all (holder_row e)).1 }

  pub holders_are_all : (rows : List HolderRow) → AreRows holder_row rows (StandsIn (map.get v.holders)) → AreAll rows (λ r. IsKnown v (row.Holder r))
  holders_are_all rows h r = let e : Named Holder = (r.name, record { kind = r.kind; tenant = r.tenant }) in (h.sound e, h.complete e)

  pub volumes_say : (rows : List VolumeRow) → AreAll rows (λ r. IsKnown v (row.Volume r)) → AreRows volume_row rows (StandsIn (map.get v.volumes))
  volumes_say rows all = record { sound = λ e. (all (volume_row e)).0; complete = λ e. (all (volume_row e)).1 }

  pub volumes_are_all : (rows : List VolumeRow) → AreRows volume_row rows (StandsIn (map.get v.volumes)) → AreAll rows (λ r. IsKnown v (row.Volume r))
  volumes_are_all rows h r = let e : Named Volume = (r.name, record { array = r.array; tenant = r.tenant; bytes = r.bytes }) in (h.sound e, h.complete e)

-- one inventory has these maps
one_restored : (s : BTreeMap ℕ Seat) (a : BTreeMap ℕ ℕ) (h : BTreeMap (List ℕ) Holder) (x : BTreeMap (List ℕ) Volume) (v w : InventoryRows) → IsRestored s a h x v → IsRestored s a h x w → v ≡ w
one_restored s a h x v w r t =
    let ports = map.same_map nat_cmp_total map.nat_cmp-IsAntisymmetric v.ports w.ports (λ q. r.ports q ∙ sym (t.ports q)) in
    λ i. record { ports = ports i; holders = (r.holders_are ∙ sym t.holders_are) i; volumes = (r.volumes_are ∙ sym t.volumes_are) i }

module _ (ps : List PortEntry) (xs : List AddressRow) (hs : List HolderRow) (vs : List VolumeRow) (s : BTreeMap ℕ Seat) (a : BTreeMap ℕ ℕ) (h : BTreeMap (List ℕ) Holder) (x : BTreeMap (List ℕ) Volume)
    (seats_are : AreRows port_row ps (StandsIn (tree.get nat_cmp s))) (addresses_are : AreRows address_row xs (StandsIn (tree.get nat_cmp a))) (holders : AreRows holder_row hs (StandsIn (tree.get name_cmp h))) (volumes : AreRows volume_row vs (StandsIn (tree.get name_cmp x))) where
  -- the inventory of the maps that the rows say has them
  pub made_rows : (v : InventoryRows) → IsRestored s a h x v → AreSeated (tree.get nat_cmp s) (tree.get nat_cmp a) → AreInventoryRows ps xs hs vs v
  made_rows v r placed = record {
    ports_are = entries_of_made ps xs s a seats_are addresses_are v.ports r.ports;
    addresses_are = addresses_of_made ps xs s a seats_are addresses_are v.ports r.ports placed;
    holders_are = holders_are_all v hs (subst (λ m. AreRows holder_row hs (StandsIn (map.get m))) (sym r.holders_are) (made_has name_cmp holder_row hs name_total h holders));
    volumes_are = volumes_are_all v vs (subst (λ m. AreRows volume_row vs (StandsIn (map.get m))) (sym r.volumes_are) (made_has name_cmp volume_row vs name_total x volumes));
  }

  -- and what has them is of the maps
  only_made : (w : InventoryRows) → AreInventoryRows ps xs hs vs w → IsRestored s a h x w
  only_made w rows = record {
    ports = only_seated ps xs s a seats_are addresses_are w.ports rows.ports_are rows.addresses_are;
    holders_are = one_map name_cmp holder_row hs name_total name_exact h w.holders holders (holders_say w hs rows.holders_are);
    volumes_are = one_map name_cmp volume_row vs name_total name_exact x w.volumes volumes (volumes_say w vs rows.volumes_are);
  }

  -- what a fault of it says of all that have the rows
  ports_fail : (w : InventoryRows) → AreInventoryRows ps xs hs vs w → RestoreFails s a h x restore.Ports → ¬ ArePortsSound w.ports w.holders
  ports_fail w rows fails sound = fails.2 (subst (λ (v : InventoryRows). ArePortsSound v.ports v.holders) (one_restored s a h x w fails.0 (only_made w rows) fails.1) sound)

  addresses_fail : (w : InventoryRows) → AreInventoryRows ps xs hs vs w → RestoreFails s a h x restore.Addresses → ¬ AreAddressesSound w.ports
  addresses_fail w rows fails sound = fails (are_seated ps xs s a seats_are addresses_are w.ports rows.ports_are rows.addresses_are sound)

  holders_fail : (w : InventoryRows) → AreInventoryRows ps xs hs vs w → RestoreFails s a h x restore.Holders → ¬ AreHoldersSound w.holders
  holders_fail w rows fails sound = fails (subst AreHoldersSound (only_made w rows).holders_are sound)

  volumes_fail : (w : InventoryRows) → AreInventoryRows ps xs hs vs w → RestoreFails s a h x restore.Volumes → ¬ AreVolumesSound w.holders w.volumes
  volumes_fail w rows fails sound = let of = only_made w rows in fails (subst (λ m. AreVolumesSound (map.from_entries h.entries) m) of.volumes_are (subst (λ m. AreVolumesSound m w.volumes) of.holders_are sound))

  pub fault_damages : (fault : RestoreFault) → RestoreFails s a h x fault → OfTable (λ table. (w : InventoryRows) → AreInventoryRows ps xs hs vs w → ¬ InventoryPartIsSound table w) (load_fault fault)
  fault_damages restore.Ports = λ fails w rows. ports_fail w rows fails
  fault_damages restore.Addresses = λ fails w rows. addresses_fail w rows fails
  fault_damages restore.Holders = λ fails w rows. holders_fail w rows fails
  fault_damages restore.Volumes = λ fails w rows. volumes_fail w rows fails
  fault_damages restore.Memory = λ _. tt

  pub fault_is_exact : (fault : RestoreFault) → RestoreFails s a h x fault → OfTable (λ table. (w : InventoryRows) → AreInventoryRows ps xs hs vs w → ¬ IsSound w) (load_fault fault)
  fault_is_exact restore.Ports = λ fails w rows sound. ports_fail w rows fails (parts_of_sound w sound).0
  fault_is_exact restore.Addresses = λ fails w rows sound. addresses_fail w rows fails (parts_of_sound w sound).1
  fault_is_exact restore.Holders = λ fails w rows sound. holders_fail w rows fails (parts_of_sound w sound).2
  fault_is_exact restore.Volumes = λ fails w rows sound. volumes_fail w rows fails (parts_of_sound w sound).3
  fault_is_exact restore.Memory = λ _. tt
