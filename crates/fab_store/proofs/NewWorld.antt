-- The new world: no row but settings stands in it.
use Rattle.std.proofs.Common.{ℕ, ◌≡◌, List, Option, None, Some, true, refl, sym, ap, ◌∙◌, subst}
use mathlib.Core.Bool.{true≢false}
use Rattle.std.specs.FinMap as map
use Rattle.std.specs.FinSet as set
use Rattle.std.specs.Option.{option_map, option_and_then}
use Rattle.std.specs.Ordering.{nat_cmp}
use Rattle.std.specs.declared.cmp.Ordering.{Ordering}
use Rattle.fab_reach_base.specs.fab_lemmas.Firsts.{HasAt}
use Rattle.fab_reach_base.specs.fab_lemmas.MapsOfSets.{in_set, has}
use Rattle.fab_reach_base.specs.fab_names.Orders.{name_cmp, member_cmp}
use Rattle.fab_reach_base.specs.fab_names.declared.fabric.Fabric.{Fabric}
use Rattle.fab_reach_base.specs.fab_names.declared.fabric.Fabric.TheVariants.{A, B}
use Rattle.fab_reach_base.specs.fab_inventory.declared.port.Known.{Known}
use Rattle.fab_reach_base.specs.fab_zoning_rows.Rows.{row_cmp}
use Rattle.fab_reach_base.specs.fab_zoning.Zonings.{FabricZoning, new_zoning}
use Rattle.fab_reach_base.specs.fab_mapping_base.Groups.{HostGroupRows}
use Rattle.fab_reach_base.specs.Records.{zoning_at}
use Rattle.fab_store_rows.specs.PlanEntries.{PlanEntry}
use Rattle.fab_store_rows.specs.Standing.{HasItem, IsHostHead, IsStorageHead, HasPart, entry_of, holder_of, volume_of}
use Rattle.fab_store_rows.specs.declared.config_row.ActiveRow.{ActiveRow}
use Rattle.fab_store_rows.specs.declared.config_row.ConfigRow.TheVariants as config
use Rattle.fab_store_rows.specs.declared.config_row.GroupRow.{GroupRow}
use Rattle.fab_store_rows.specs.declared.config_row.GroupRow.TheVariants as group
use Rattle.fab_store_rows.specs.declared.config_row.PartRow.{PartRow}
use Rattle.fab_store_rows.specs.declared.config_row.PartRow.TheVariants as part
use Rattle.fab_store_rows.specs.declared.config_row.ZoningItem.{ZoningItem}
use Rattle.fab_store_rows.specs.declared.config_row.ZoningItem.TheVariants as item
use Rattle.fab_store_rows.specs.declared.config_row.ZoningRow.{ZoningRow}
use Rattle.fab_store_rows.specs.declared.inventory_row.AddressRow.{AddressRow}
use Rattle.fab_store_rows.specs.declared.inventory_row.HolderRow.{HolderRow}
use Rattle.fab_store_rows.specs.declared.inventory_row.PortEntry.{PortEntry}
use Rattle.fab_store_rows.specs.declared.inventory_row.VolumeRow.{VolumeRow}
use Rattle.fab_store_rows.specs.declared.record_row.ApprovalRow.{ApprovalRow}
use Rattle.fab_store_rows.specs.declared.record_row.PathRow.{PathRow}
use Rattle.fab_store_rows.specs.declared.record_row.UndoRow.{UndoRow}
use Rattle.fab_store_world.specs.PlanRows.{IsRowOf, IsApprovalOf, IsChanged}
use Rattle.fab_store_world.specs.Standing.{IsPlanRow, IsApprovalRow, IsUndoRow}
use Rattle.fab_store_world.specs.Tables.{IsPortRow, IsAddressRow, IsHolderRow, IsVolumeRow, IsConfigRow, IsRowOfPath}
use Rattle.fab_world.specs.PlanRecords.{PlanRecord}
use Rattle.fab_world.specs.Worlds.{new_world}
use Rattle.fab_world.proofs.NewWorld as world

-- ---- nothing is found where nothing is

no_value : {X : Type 0} (o : Option X) (x : X) → o ≡ None → ¬ (o ≡ Some x)
no_value o x none some = let e : ◌≡◌ {A = Option _} None (Some x) = sym none ∙ some in absurd cc

nowhere : {X : Type 0} (P : X → Type 0) (n : List ℕ) → ¬ HasAt (map.get (map.empty {X = X} {R = name_cmp})) P n
nowhere P n h = no_value _ h.0 (map.get-empty name_cmp n) h.1

in_none : {K : Type 0} (R : K → K → Ordering) (n : List ℕ) (x : K) → ¬ (has (map.empty {X = set.FinSet R} {R = name_cmp}) n x ≡ true)
in_none R n x h = true≢false (sym h ∙ ap (λ (s : Option (set.FinSet R)). in_set s x) (map.get-empty name_cmp n))

-- ---- rows of the inventory

pub no_port : (r : PortEntry) → ¬ IsPortRow new_world r
no_port r h = no_value _ r (ap (option_map (entry_of r.name)) (map.get-empty nat_cmp r.name)) h

pub no_address : (r : AddressRow) → ¬ IsAddressRow new_world r
no_address r h = no_value _ r.address (ap (option_and_then (λ (k : Known). k.address)) (map.get-empty nat_cmp r.port)) h

pub no_holder : (r : HolderRow) → ¬ IsHolderRow new_world r
no_holder r h = no_value _ (holder_of r) (map.get-empty name_cmp r.name) h

pub no_volume : (r : VolumeRow) → ¬ IsVolumeRow new_world r
no_volume r h = no_value _ (volume_of r) (map.get-empty name_cmp r.name) h

-- ---- rows of the configuration

zoning_is : (f : Fabric) → zoning_at new_world.config f ≡ new_zoning f
zoning_is A = refl
zoning_is B = refl

no_item : (f : Fabric) (i : ZoningItem) → ¬ HasItem (new_zoning f) i
no_item f (item.Alias n x) h = in_none member_cmp n x h
no_item f (item.Zone n x) h = in_none member_cmp n x h
no_item f (item.Set n x) h = in_none name_cmp n x h

pub no_zoning : (r : ZoningRow) → ¬ IsConfigRow new_world (config.Zoning r)
no_zoning r h = no_item r.fabric r.item (subst (λ v. HasItem v r.item) (zoning_is r.fabric) h)

pub no_active : (r : ActiveRow) → ¬ IsConfigRow new_world (config.Active r)
no_active r h = true≢false (sym (subst (λ (v : FabricZoning). set.contains v.rows (r.zone, r.member) ≡ true) (zoning_is r.fabric) h) ∙ set.contains-empty row_cmp (r.zone, r.member))

pub no_group : (r : GroupRow) → ¬ IsConfigRow new_world (config.Group r)
no_group (group.Host r) h = nowhere (IsHostHead r) r.name h
no_group (group.Storage r) h = nowhere (IsStorageHead r) r.name h

pub no_part : (r : PartRow) → ¬ IsConfigRow new_world (config.Part r)
no_part (part.Host name host) h = nowhere (λ (g : HostGroupRows). set.contains g.hosts host ≡ true) name h
no_part (part.Storage name p) h = nowhere (HasPart p) name h

-- ---- rows of plans and of paths

pub no_plan : (r : PlanEntry) → ¬ IsPlanRow new_world r
no_plan r h = nowhere (IsRowOf r) r.name h.plan

pub no_approval : (r : ApprovalRow) → ¬ IsApprovalRow new_world r
no_approval r h = nowhere (IsApprovalOf r) r.plan h

pub no_undo : (r : UndoRow) → ¬ IsUndoRow new_world r
no_undo r h = nowhere (λ (p : PlanRecord). IsChanged p.standing r.sign r.row) r.plan h

pub no_path : (r : PathRow) → ¬ IsRowOfPath new_world r
no_path r h = world.no_path r.path h.0
