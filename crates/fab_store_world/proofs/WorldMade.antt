-- A world that is made of rows, and rows of which none is.
use Rattle.std.proofs.Common.{◌≡◌, ℕ, List, Option, refl, sym, subst}
use Rattle.std.specs.BTreeMap.{BTreeMap, get}
use Rattle.std.specs.FinMap as map
use Rattle.fab_reach_base.specs.fab_inventory.Inventories.{InventoryRows}
use Rattle.fab_world.specs.fab_store_load.Configs.{AreConfigRows}
use Rattle.fab_world.specs.fab_store_load.Faults.{OfTable}
use Rattle.fab_world.specs.fab_store_load.Inventories.{AreAll, AreInventoryRows}
use Rattle.fab_world.specs.fab_store_load.declared.fault.LoadFault.{LoadFault}
use Rattle.fab_world.specs.fab_store_load.declared.fault.LoadFault.TheVariants.{Damaged, Memory}
use Rattle.fab_reach_base.proofs.fab_lemmas.SeenMaps.{same_look_ups}
use Rattle.fab_reach_base.specs.fab_names.Orders.{name_cmp}
use Rattle.fab_reach_base.proofs.fab_names.OrderLaws.{name_total}
use Rattle.fab_reach_base.specs.Records.{ConfigRows}
use Rattle.fab_reach_base.specs.Soundness.{HasSoundZonings, IsSoundAlone}
use Rattle.fab_world.specs.fab_store_rows.PlanEntries.{PlanEntry}
use Rattle.fab_world.specs.fab_store_rows.declared.config_row.ConfigRow.{ConfigRow}
use Rattle.fab_world.specs.fab_store_rows.declared.inventory_row.PortEntry.{PortEntry}
use Rattle.fab_world.specs.fab_store_rows.declared.inventory_row.AddressRow.{AddressRow}
use Rattle.fab_world.specs.fab_store_rows.declared.inventory_row.HolderRow.{HolderRow}
use Rattle.fab_world.specs.fab_store_rows.declared.inventory_row.VolumeRow.{VolumeRow}
use Rattle.fab_world.specs.fab_store_rows.declared.record_row.ApprovalRow.{ApprovalRow}
use Rattle.fab_world.specs.fab_store_rows.declared.record_row.UndoRow.{UndoRow}
use Rattle.fab_world.specs.fab_store_rows.declared.table_rows.CountRow.{CountRow}
use Rattle.fab_world.specs.fab_store_rows.declared.table_rows.TableRows.{TableRows}
use Rattle.fab_store_world.specs.PlanRows.{ArePlans, ListInOrder}
use Rattle.fab_world.specs.PlanRecords.{PlanRecord}
use Rattle.fab_store_world.specs.OpenedTables.{IsCount, IsMadeOfTables, HasNoWorld}

-- of equal lists the same is true
inventory_as : (ps qs : List PortEntry) (xs ys : List AddressRow) (hs is : List HolderRow) (us vs : List VolumeRow) (v : InventoryRows) → ps ≡ qs → xs ≡ ys → hs ≡ is → us ≡ vs → AreInventoryRows ps xs hs us v → AreInventoryRows qs ys is vs v
inventory_as ps qs xs ys hs is us vs v p a h u are = subst (λ x. AreInventoryRows x ys is vs v) p (subst (λ x. AreInventoryRows ps x is vs v) a (subst (λ x. AreInventoryRows ps xs x vs v) h (subst (λ x. AreInventoryRows ps xs hs x v) u are)))

plans_as : (ps qs : List PlanEntry) (hs is : List ApprovalRow) (us vs : List UndoRow) (plans : List ℕ → Option PlanRecord) (order : List (List ℕ)) → ps ≡ qs → hs ≡ is → us ≡ vs → ArePlans ps hs us plans order → ArePlans qs is vs plans order
plans_as ps qs hs is us vs plans order p h u are = subst (λ x. ArePlans x is vs plans order) p (subst (λ x. ArePlans ps x vs plans order) h (subst (λ x. ArePlans ps hs x plans order) u are))

module _ {A : Type 0} (t : TableRows A) where
  module _ (counts : List CountRow) (ports : List PortEntry) (addresses : List AddressRow) (holders : List HolderRow) (volumes : List VolumeRow) (config : List ConfigRow) (rows : List PlanEntry) (approvals : List ApprovalRow) (undo : List UndoRow) (counts_is : counts ≡ t.counts.items)
      (ports_is : ports ≡ t.ports.items) (addresses_is : addresses ≡ t.addresses.items) (holders_is : holders ≡ t.holders.items) (volumes_is : volumes ≡ t.volumes.items) (config_is : config ≡ t.config.items) (rows_is : rows ≡ t.plans.items) (approvals_is : approvals ≡ t.approvals.items)
      (undo_is : undo ≡ t.undo.items) where
    -- the world of the parts
    pub made : (v : InventoryRows) (c : ConfigRows) (plans : BTreeMap (List ℕ) PlanRecord) (order : List (List ℕ)) (revision : ℕ) → AreAll counts (IsCount revision) → AreInventoryRows ports addresses holders volumes v → AreConfigRows config c → HasSoundZonings c
        → ArePlans rows approvals undo (get name_cmp plans) order → ListInOrder (get name_cmp plans) → IsMadeOfTables t (record { inventory = v; config = c; plans = map.from_entries plans.entries; order = order; revision = revision })
    made v c plans order revision counted known stands zonings kept sorted = record {
      records_are = record {
        counts_are = subst (λ xs. AreAll xs (IsCount revision)) counts_is counted;
        inventory_are = inventory_as ports t.ports.items addresses t.addresses.items holders t.holders.items volumes t.volumes.items v ports_is addresses_is holders_is volumes_is known;
        config_are = subst (λ xs. AreConfigRows xs c) config_is stands;
        plans_are = subst (λ look. ArePlans t.plans.items t.approvals.items t.undo.items look order) at (plans_as rows t.plans.items approvals t.approvals.items undo t.undo.items (get name_cmp plans) order rows_is approvals_is undo_is kept);
      };
      zonings = zonings;
      in_order = subst ListInOrder at sorted;
    }
      where
        at : get name_cmp plans ≡ map.get (map.from_entries {R = name_cmp} plans.entries)
        at = same_look_ups name_total plans (map.from_entries plans.entries) refl

  -- no revision, no world
  pub no_revision : (rows : List CountRow) → rows ≡ t.counts.items → ((n : ℕ) → ¬ AreAll rows (IsCount n)) → HasNoWorld t
  no_revision rows e none w are sound = none w.revision (subst (λ xs. AreAll xs (IsCount w.revision)) (sym e) are.records_are.counts_are)

  -- no configuration, no world
  pub no_config : (rows : List ConfigRow) (fault : LoadFault) → rows ≡ t.config.items → OfTable (λ table. (c : ConfigRows) → AreConfigRows rows c → ¬ IsSoundAlone c) fault → OfTable (λ table. HasNoWorld t) fault
  no_config rows (Damaged table) e none = λ w are sound. none w.config (subst (λ xs. AreConfigRows xs w.config) (sym e) are.records_are.config_are) sound.config
  no_config rows Memory e none = tt

  -- no plans, no world
  pub no_plans : (rows : List PlanEntry) (approvals : List ApprovalRow) (undo : List UndoRow) (fault : LoadFault) → rows ≡ t.plans.items → approvals ≡ t.approvals.items → undo ≡ t.undo.items
      → OfTable (λ table. (plans : List ℕ → Option PlanRecord) (order : List (List ℕ)) → ¬ ArePlans rows approvals undo plans order) fault → OfTable (λ table. HasNoWorld t) fault
  no_plans rows approvals undo (Damaged table) e f g none =
      λ w are sound. none (map.get w.plans) w.order (plans_as t.plans.items rows t.approvals.items approvals t.undo.items undo (map.get w.plans) w.order (sym e) (sym f) (sym g) are.records_are.plans_are)
  no_plans rows approvals undo Memory e f g none = tt
