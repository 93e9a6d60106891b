-- How the rows of a configuration are gathered, table by table: what the private loops say of
-- themselves. No public contract names anything of this file.
use Rattle.std.specs.Prelude.{ℕ, ◌≡◌, ◌⊎◌, List, Contains, Option, None, Some, true, IsTrue}
use Rattle.std.specs.declared.cmp.Ordering.{Ordering}
use Rattle.std.specs.BTreeSet.{BTreeSet, contains, IsSubset}
use Rattle.std.specs.FinMap as map
use Rattle.std.specs.FinSet as set
use Rattle.fab_reach_base.specs.fab_names.declared.fabric.Fabric.{Fabric}
use Rattle.fab_reach_base.specs.fab_names.declared.member.Member.{Member}
use Rattle.fab_reach_base.specs.fab_lemmas.MapsOfSets.{has}
use Rattle.fab_reach_base.specs.fab_zoning.Zonings.{FabricZoning, permits}
use Rattle.fab_reach_base.specs.fab_mapping_base.Groups.{HostGroupRows, StorageGroupRows}
use Rattle.fab_reach_base.specs.fab_mapping.Mappings.{MappingRows}
use Rattle.fab_reach_base.specs.Records.{ConfigRows}
use Rattle.fab_store_rows.specs.declared.config_row.SettingRow.TheVariants.{ActiveSet, DefaultZone}
use Rattle.fab_store_rows.specs.declared.config_row.ZoningItem.TheVariants.{Alias, Zone, Set}
use Rattle.fab_store_rows.specs.declared.config_row.GroupRow.TheVariants as group
use Rattle.fab_store_rows.specs.declared.config_row.StoragePart.{StoragePart}
use Rattle.fab_store_rows.specs.declared.config_row.StoragePart.TheVariants as part
use Rattle.fab_store_rows.specs.declared.config_row.PartRow.TheVariants as parts
use Rattle.fab_store_rows.specs.declared.config_row.ConfigRow.{ConfigRow}
use Rattle.fab_store_rows.specs.declared.config_row.ConfigRow.TheVariants as config
use Rattle.fab_store_rows.specs.RowOrder.{row_cmp}
use Rattle.fab_store_rows.specs.Standing.{HasPart, Stands}

-- the set has the row
abbrev pub Has : BTreeSet ConfigRow → ConfigRow → Type 0
Has s r = IsTrue (contains row_cmp s r)

-- the row does not stand in the configuration, if one is given
abbrev pub Misses : Option ConfigRows → ConfigRow → Type 0
Misses None r = Unit {0}
Misses (Some c) r = ¬ Stands c r

-- of the rows with P those that do not stand there
abbrev pub Lacking : Option ConfigRows → (ConfigRow → Type 0) → ConfigRow → Type 0
Lacking o P r = P r × Misses o r

-- the configuration, if one is given, has this very host group under the name
abbrev pub HasHostGroup : Option ConfigRows → List ℕ → HostGroupRows → Type 0
HasHostGroup None n g = ⊥
HasHostGroup (Some c) n g = map.get c.mapping.host_groups n ≡ Some g

-- the configuration, if one is given, has this very storage group under the name
abbrev pub HasStorageGroup : Option ConfigRows → List ℕ → StorageGroupRows → Type 0
HasStorageGroup None n g = ⊥
HasStorageGroup (Some c) n g = map.get c.mapping.groups n ≡ Some g

-- the other set, if there is one, has each item of this one
abbrev pub HasAll : {K : Type 0} → (K → K → Ordering) → Option (BTreeSet K) → BTreeSet K → Type 0
HasAll R None items = ⊥
HasAll R (Some other) items = IsSubset R items other

-- ---- the rows of the tables that tell of sets under keys

abbrev pub alias_row : Fabric → List ℕ × Member → ConfigRow
alias_row f e = config.Zoning (record { fabric = f; item = Alias e.0 e.1 })

abbrev pub zone_row : Fabric → List ℕ × Member → ConfigRow
zone_row f e = config.Zoning (record { fabric = f; item = Zone e.0 e.1 })

abbrev pub set_row : Fabric → List ℕ × List ℕ → ConfigRow
set_row f e = config.Zoning (record { fabric = f; item = Set e.0 e.1 })

abbrev pub active_row : Fabric → List ℕ × Member → ConfigRow
active_row f e = config.Active (record { fabric = f; zone = e.0; member = e.1 })

abbrev pub host_row : List ℕ × List ℕ → ConfigRow
host_row e = config.Part (parts.Host e.0 e.1)

abbrev pub host_group_row : List ℕ × List ℕ → ConfigRow
host_group_row e = config.Part (parts.Storage e.0 (part.HostGroup e.1))

abbrev pub target_row : List ℕ × ℕ → ConfigRow
target_row e = config.Part (parts.Storage e.0 (part.Target e.1))

abbrev pub unit_row : List ℕ → ℕ × List ℕ → ConfigRow
unit_row name e = config.Part (parts.Storage name (part.Unit e.0 e.1))

-- the rows of groups themselves
abbrev pub host_head_row : List ℕ → HostGroupRows → ConfigRow
host_head_row n g = config.Group (group.Host (record { name = n; tenant = g.tenant }))

abbrev pub storage_head_row : List ℕ → StorageGroupRows → ConfigRow
storage_head_row n g = config.Group (group.Storage (record { name = n; tenant = g.tenant; array = g.array; exposed = g.exposed }))

-- ---- what a loop adds

-- the row of one of the items
abbrev pub RowOfSome : {E : Type 0} → (E → ConfigRow) → List E → ConfigRow → Type 0
RowOfSome {E} row es r = (e : E) × Contains es e × (r ≡ row e)

-- the row of one of the items of one of the sets
abbrev pub RowOfSets : {Q K : Type 0} → (Q → K → ConfigRow) → List (Q × BTreeSet K) → ConfigRow → Type 0
RowOfSets {Q} {K} row es r = (e : Q × BTreeSet K) × Contains es e × RowOfSome (row e.0) e.1.keys r

-- ---- what stands, table by table

-- a row of one of the aliases, zones, or zone sets
abbrev pub IsAliasRow : Fabric → FabricZoning → ConfigRow → Type 0
IsAliasRow f v r = (n : List ℕ) × (m : Member) × (has v.aliases n m ≡ true) × (r ≡ alias_row f (n, m))

abbrev pub IsZoneRow : Fabric → FabricZoning → ConfigRow → Type 0
IsZoneRow f v r = (n : List ℕ) × (m : Member) × (has v.zones n m ≡ true) × (r ≡ zone_row f (n, m))

abbrev pub IsSetRow : Fabric → FabricZoning → ConfigRow → Type 0
IsSetRow f v r = (n : List ℕ) × (z : List ℕ) × (has v.sets n z ≡ true) × (r ≡ set_row f (n, z))

-- a row of the active set
abbrev pub IsActiveRow : Fabric → FabricZoning → ConfigRow → Type 0
IsActiveRow f v r = (n : List ℕ) × (m : Member) × (set.contains v.rows (n, m) ≡ true) × (r ≡ active_row f (n, m))

abbrev pub IsDefinitionRow : Fabric → FabricZoning → ConfigRow → Type 0
IsDefinitionRow f v r = IsAliasRow f v r ⊎ (IsZoneRow f v r ⊎ IsSetRow f v r)

abbrev pub IsSettingRow : Fabric → FabricZoning → ConfigRow → Type 0
IsSettingRow f v r = (r ≡ config.Setting (ActiveSet f v.active)) ⊎ (r ≡ config.Setting (DefaultZone f (permits v.flag)))

-- a row of the fabric's zoning
abbrev pub IsFabricRow : Fabric → FabricZoning → ConfigRow → Type 0
IsFabricRow f v r = IsDefinitionRow f v r ⊎ (IsActiveRow f v r ⊎ IsSettingRow f v r)

-- a row of the host group of this name
abbrev pub IsHostGroupRow : List ℕ → HostGroupRows → ConfigRow → Type 0
IsHostGroupRow n g r = (r ≡ host_head_row n g) ⊎ ((h : List ℕ) × (set.contains g.hosts h ≡ true) × (r ≡ host_row (n, h)))

-- a row of the storage group of this name
abbrev pub IsStorageGroupRow : List ℕ → StorageGroupRows → ConfigRow → Type 0
IsStorageGroupRow n g r =
    (r ≡ storage_head_row n g)
    ⊎ ((p : StoragePart) × HasPart p g × (r ≡ config.Part (parts.Storage n p)))

-- a row of some host group
abbrev pub IsHostGroupsRow : MappingRows → ConfigRow → Type 0
IsHostGroupsRow m r = (n : List ℕ) × (g : HostGroupRows) × (map.get m.host_groups n ≡ Some g) × IsHostGroupRow n g r

-- a row of some storage group
abbrev pub IsStorageGroupsRow : MappingRows → ConfigRow → Type 0
IsStorageGroupsRow m r = (n : List ℕ) × (g : StorageGroupRows) × (map.get m.groups n ≡ Some g) × IsStorageGroupRow n g r
