-- The rows of a configuration, and what a table tells of its soundness.
use Rattle.std.specs.Prelude.{ℕ, ◌≡◌, ◌≤◌, ◌↔◌, List, Contains, Option, Some, Bool, true}
use Rattle.std.specs.declared.cmp.Ordering.{Ordering}
use Rattle.std.specs.FinMap as map
use Rattle.std.specs.FinSet as set
use Rattle.fab_names.specs.declared.fabric.Fabric.{Fabric}
use Rattle.fab_names.specs.Orders.{name_cmp}
use Rattle.fab_reach_base.specs.fab_lemmas.Firsts.{HasAt}
use Rattle.fab_reach_base.specs.fab_lemmas.MapsOfSets.{MapOfSets, has}
use Rattle.fab_reach_base.specs.fab_mapping_base.Groups.{HostGroupRows, StorageGroupRows}
use Rattle.fab_reach_base.specs.fab_zoning.declared.flag.DefaultFlag.{DefaultFlag}
use Rattle.fab_reach_base.specs.fab_zoning.Zonings.{FabricZoning, permits}
use Rattle.fab_reach_base.specs.fab_zoning.Soundness as zoning
use Rattle.fab_reach_base.specs.fab_mapping.Mappings.{MappingRows, HasNoClash}
use Rattle.fab_reach_base.specs.fab_mapping.Soundness as mapping
use Rattle.fab_reach_base.specs.fab_mapping_base.Limits.{most_host_groups, most_storage_groups}
use Rattle.fab_reach_base.specs.Records.{ConfigRows}
use Rattle.fab_store_rows.specs.declared.config_row.ConfigRow.{ConfigRow}
use Rattle.fab_store_rows.specs.declared.config_row.StoragePart.TheVariants as part
use Rattle.fab_store_rows.specs.Standing.{Stands, IsHostHead, IsStorageHead, HasPart}
use Rattle.fab_store_load.specs.declared.fault.Table.{Table}
use Rattle.fab_store_load.specs.declared.fault.Table.TheVariants.{Zoning, Active, Groups, GroupParts}
use Rattle.fab_store_load.specs.Rows.{AreRows}
use Rattle.fab_store_load.specs.Kinds.{active_set_row, default_zone_row, alias_row, zone_row, set_row, active_row, host_group_row, storage_group_row, host_row, served_row, target_row, unit_row}
use Rattle.fab_store_load.specs.Inventories.{AreAll}

-- the rows are those that stand in the configuration
abbrev pub AreConfigRows : List ConfigRow → ConfigRows → Type 0
AreConfigRows rows c = AreAll rows (Stands c)

-- sound aliases, zones and zone sets of a fabric
abbrev pub HasSoundDefinitions : FabricZoning → Type 0
HasSoundDefinitions v = zoning.AreSoundDefinitions v.aliases v.zones v.sets

-- a sound active set of a fabric
abbrev pub HasSoundActive : FabricZoning → Type 0
HasSoundActive v = zoning.IsSoundActive v.active v.rows

-- not too many host groups, nor storage groups
pub record HasFewGroups (m : MappingRows) : Type 0 where
  pub few_host_groups : map.len m.host_groups ≤ most_host_groups
  pub few_groups : map.len m.groups ≤ most_storage_groups

-- what is sound of a configuration so far as a table tells it
abbrev pub ConfigPartIsSound : Table → ConfigRows → Type 0
ConfigPartIsSound Zoning c = HasSoundDefinitions c.a × HasSoundDefinitions c.b
ConfigPartIsSound Active c = HasSoundActive c.a × HasSoundActive c.b
ConfigPartIsSound Groups c = HasFewGroups c.mapping
ConfigPartIsSound GroupParts c = mapping.IsSound c.mapping × HasNoClash c.mapping
ConfigPartIsSound _ c = Unit {0}

-- ---- the same rows, kind by kind

-- the rows of a fabric's settings are just these two
pub record SettingSays (f : Fabric) (rows : List ConfigRow) (active : Option (List ℕ)) (flag : DefaultFlag) : Type 0 where
  pub name_is : (n : Option (List ℕ)) → Contains rows (active_set_row (f, n)) ↔ (active ≡ n)
  pub flag_is : (p : Bool) → Contains rows (default_zone_row (f, p)) ↔ (permits flag ≡ p)

-- the set of the name has the item
abbrev pub IsPair : {Q X : Type 0} {O : Q → Q → Ordering} {R : X → X → Ordering} → MapOfSets O R → Q × X → Type 0
IsPair m e = has m e.0 e.1 ≡ true

-- the rows of a fabric's zoning are its own
pub record ZoningSays (f : Fabric) (rows : List ConfigRow) (v : FabricZoning) : Type 0 where
  pub aliases_are : AreRows (alias_row f) rows (IsPair v.aliases)
  pub zones_are : AreRows (zone_row f) rows (IsPair v.zones)
  pub sets_are : AreRows (set_row f) rows (IsPair v.sets)
  pub active_are : AreRows (active_row f) rows (λ e. set.contains v.rows (e.1, e.0) ≡ true)

-- no set of the map is empty
abbrev pub HasNoEmpty : {Q X : Type 0} {O : Q → Q → Ordering} {R : X → X → Ordering} → MapOfSets O R → Type 0
HasNoEmpty {Q} {X} {O} {R} m = (q : Q) (s : set.FinSet R) → map.get m q ≡ Some s → (x : X) × (set.contains s x ≡ true)

-- no alias, zone or zone set is empty
pub record HasNoEmptySet (v : FabricZoning) : Type 0 where
  pub some_alias : HasNoEmpty v.aliases
  pub some_zone : HasNoEmpty v.zones
  pub some_set : HasNoEmpty v.sets

-- the rows of host groups and their hosts are theirs
pub record HostGroupsSay (rows : List ConfigRow) (m : map.FinMap name_cmp HostGroupRows) : Type 0 where
  pub heads_are : AreRows host_group_row rows (λ e. HasAt (map.get m) (IsHostHead (record { name = e.0; tenant = e.1 })) e.0)
  pub hosts_are : AreRows host_row rows (λ e. HasAt (map.get m) (λ (g : HostGroupRows). set.contains g.hosts e.1 ≡ true) e.0)

-- the rows of storage groups and their parts are theirs
pub record StorageGroupsSay (rows : List ConfigRow) (m : map.FinMap name_cmp StorageGroupRows) : Type 0 where
  pub heads_are : AreRows storage_group_row rows (λ e. HasAt (map.get m) (IsStorageHead (record { name = e.0; tenant = e.1.tenant; array = e.1.array; exposed = e.1.exposed })) e.0)
  pub served_are : AreRows served_row rows (λ e. HasAt (map.get m) (HasPart (part.HostGroup e.1)) e.0)
  pub targets_are : AreRows target_row rows (λ e. HasAt (map.get m) (HasPart (part.Target e.1)) e.0)
  pub units_are : AreRows unit_row rows (λ e. HasAt (map.get m) (HasPart (part.Unit e.0.1 e.1)) e.0.0)
