-- What is to be looked at where rows went and came: a configuration that was sound before is sound
-- after it just where these hold.
use Rattle.std.specs.Prelude.{ℕ, ◌≡◌, ◌<◌, ◌≤◌, ◌⊎◌, List, Contains, Some, IsSome, IfSome, true}
use Rattle.std.specs.declared.cmp.Ordering.{Ordering}
use Rattle.std.specs.FinMap as map
use Rattle.std.specs.FinSet as set
use Rattle.fab_reach_base.specs.fab_lemmas.Firsts.{HasAt}
use Rattle.fab_reach_base.specs.fab_lemmas.MapsOfSets.{HasNoUser}
use Rattle.fab_reach_base.specs.fab_names.declared.fabric.Fabric.{Fabric}
use Rattle.fab_reach_base.specs.fab_names.declared.member.Member.TheVariants as member
use Rattle.fab_reach_base.specs.fab_zoning_rows.Limits.{most_rows}
use Rattle.fab_reach_base.specs.fab_zoning.Limits.{most_aliases, most_zones, most_sets, most_members}
use Rattle.fab_reach_base.specs.fab_zoning_rows.Rows.{IsPlain}
use Rattle.fab_reach_base.specs.fab_zoning.Steps.{HasAlias, HasZone}
use Rattle.fab_reach_base.specs.fab_zoning.Zonings.{FabricZoning}
use Rattle.fab_reach_base.specs.fab_mapping_base.Limits.{most_hosts, most_groups_served, most_targets, most_units, last_unit, most_host_groups, most_storage_groups}
use Rattle.fab_reach_base.specs.fab_mapping_base.declared.nexus.Nexus.{Nexus}
use Rattle.fab_reach_base.specs.fab_mapping_base.Groups.{HostGroupRows, StorageGroupRows}
use Rattle.fab_reach_base.specs.fab_mapping_base.Clashes.{GroupClaims}
use Rattle.fab_reach_base.specs.fab_mapping.Mappings.{MappingRows, IsMapped, IsUnservedIn}
use Rattle.fab_reach_base.specs.Records.{ConfigRows, zoning_at}
use Rattle.fab_store_rows.specs.declared.config_row.ConfigRow.{ConfigRow}
use Rattle.fab_store_rows.specs.declared.config_row.ConfigRow.TheVariants as config
use Rattle.fab_store_rows.specs.declared.config_row.ZoningItem.{ZoningItem}
use Rattle.fab_store_rows.specs.declared.config_row.ZoningItem.TheVariants as item
use Rattle.fab_store_rows.specs.declared.config_row.GroupRow.{GroupRow}
use Rattle.fab_store_rows.specs.declared.config_row.GroupRow.TheVariants as group
use Rattle.fab_store_rows.specs.declared.config_row.PartRow.{PartRow}
use Rattle.fab_store_rows.specs.declared.config_row.PartRow.TheVariants as parts
use Rattle.fab_store_rows.specs.declared.config_row.StoragePart.{StoragePart}
use Rattle.fab_store_rows.specs.declared.config_row.StoragePart.TheVariants as part
use Rattle.fab_store_rows.specs.Standing.{HasPart}

-- ---- sizes

-- an alias, zone or zone set is not too large
abbrev pub IsListable : {K : Type 0} {R : K → K → Ordering} → set.FinSet R → Type 0
IsListable s = set.len s ≤ most_members

-- a host group has a host; it has not too many
abbrev pub HasSomeHost : HostGroupRows → Type 0
HasSomeHost g = 0 < set.len g.hosts

abbrev pub HasFewHosts : HostGroupRows → Type 0
HasFewHosts g = set.len g.hosts ≤ most_hosts

-- a storage group has not too many of the kind of this part
abbrev pub HasFewLike : StoragePart → StorageGroupRows → Type 0
HasFewLike (part.HostGroup k) g = set.len g.host_groups ≤ most_groups_served
HasFewLike (part.Target q) g = set.len g.targets ≤ most_targets
HasFewLike (part.Unit u x) g = map.len g.units ≤ most_units

-- the zoning of a fabric has not too much of anything, and a name is active just where there are rows
pub record HasSoundCounts (v : FabricZoning) : Type 0 where
  pub few_aliases : map.len v.aliases ≤ most_aliases
  pub few_zones : map.len v.zones ≤ most_zones
  pub few_sets : map.len v.sets ≤ most_sets
  pub has_rows : IsSome v.active → 0 < set.len v.rows
  pub has_name : 0 < set.len v.rows → IsSome v.active
  pub few_rows : set.len v.rows ≤ most_rows

-- the mapping has not too many groups
pub record HasFewGroups (v : MappingRows) : Type 0 where
  pub few_host_groups : map.len v.host_groups ≤ most_host_groups
  pub few_groups : map.len v.groups ≤ most_storage_groups

-- ---- a row that came

-- no alias is in an alias, what is named is there, and what has the item is not too large
abbrev pub ItemMayCome : FabricZoning → ZoningItem → Type 0
ItemMayCome v (item.Alias n m) = IsPlain m × IfSome (map.get v.aliases n) IsListable
ItemMayCome v (item.Zone n m) = HasAlias v m × IfSome (map.get v.zones n) IsListable
ItemMayCome v (item.Set n z) = HasZone v z × IfSome (map.get v.sets n) IsListable

-- a host group that is named is there, a unit is none above the last
abbrev pub IsNameable : MappingRows → StoragePart → Type 0
IsNameable v (part.HostGroup k) = IsSome (map.get v.host_groups k)
IsNameable v (part.Target q) = Unit {0}
IsNameable v (part.Unit u x) = u ≤ last_unit

-- a host group has a host
abbrev pub GroupMayCome : MappingRows → GroupRow → Type 0
GroupMayCome v (group.Host r) = IfSome (map.get v.host_groups r.name) HasSomeHost
GroupMayCome v (group.Storage r) = Unit {0}

-- what has the part is not too large
abbrev pub PartMayCome : MappingRows → PartRow → Type 0
PartMayCome v (parts.Host n h) = IfSome (map.get v.host_groups n) HasFewHosts
PartMayCome v (parts.Storage n p) = IsNameable v p × IfSome (map.get v.groups n) (HasFewLike p)

abbrev pub MayCome : ConfigRows → ConfigRow → Type 0
MayCome d (config.Setting r) = Unit {0}
MayCome d (config.Zoning r) = ItemMayCome (zoning_at d r.fabric) r.item
MayCome d (config.Active r) = IsPlain r.member
MayCome d (config.Group r) = GroupMayCome d.mapping r
MayCome d (config.Part r) = PartMayCome d.mapping r

-- ---- a row that went

-- the alias or the zone is there still, or nothing names it
abbrev pub ItemMayGo : FabricZoning → ZoningItem → Type 0
ItemMayGo v (item.Alias n m) = (map.contains_key v.aliases n ≡ true) ⊎ HasNoUser v.zones (member.Alias n)
ItemMayGo v (item.Zone n m) = HasZone v n ⊎ HasNoUser v.sets n
ItemMayGo v (item.Set n z) = Unit {0}

-- the host group is there still, or nothing names it
abbrev pub GroupMayGo : MappingRows → GroupRow → Type 0
GroupMayGo v (group.Host r) = IsSome (map.get v.host_groups r.name) ⊎ IsUnservedIn (map.get v.groups) r.name
GroupMayGo v (group.Storage r) = Unit {0}

-- the host group has a host still
abbrev pub PartMayGo : MappingRows → PartRow → Type 0
PartMayGo v (parts.Host n h) = IfSome (map.get v.host_groups n) HasSomeHost
PartMayGo v (parts.Storage n p) = Unit {0}

abbrev pub MayGo : ConfigRows → ConfigRow → Type 0
MayGo d (config.Setting r) = Unit {0}
MayGo d (config.Zoning r) = ItemMayGo (zoning_at d r.fabric) r.item
MayGo d (config.Active r) = Unit {0}
MayGo d (config.Group r) = GroupMayGo d.mapping r
MayGo d (config.Part r) = PartMayGo d.mapping r

-- ---- unit clashes

-- by the row the storage group of this name may map what it did not: the row is its head or a part of
-- it, or a host of a host group that it serves
abbrev pub GroupTouches : GroupRow → List ℕ → Type 0
GroupTouches (group.Host r) n = ⊥
GroupTouches (group.Storage r) n = r.name ≡ n

abbrev pub PartTouches : MappingRows → PartRow → List ℕ → Type 0
PartTouches v (parts.Host k h) n = HasAt (map.get v.groups) (HasPart (part.HostGroup k)) n
PartTouches v (parts.Storage m p) n = m ≡ n

abbrev pub Touches : MappingRows → ConfigRow → List ℕ → Type 0
Touches v (config.Setting r) n = ⊥
Touches v (config.Zoning r) n = ⊥
Touches v (config.Active r) n = ⊥
Touches v (config.Group r) n = GroupTouches r n
Touches v (config.Part r) n = PartTouches v r n

-- one of the rows touches it
abbrev pub IsTouched : MappingRows → List ConfigRow → List ℕ → Type 0
IsTouched v come n = (r : ConfigRow) × Contains come r × Touches v r n

-- where the storage group maps a volume, no exposed one maps another
abbrev pub IsClear : MappingRows → StorageGroupRows → Type 0
IsClear v g = (x : Nexus) (a b : List ℕ) → GroupClaims (map.get v.host_groups) g (x, a) → IsMapped v (x, b) → a ≡ b

-- and so where there is an exposed one of this name
abbrev pub IsClearAt : MappingRows → List ℕ → Type 0
IsClearAt v n = (g : StorageGroupRows) → map.get v.groups n ≡ Some g → g.exposed ≡ true → IsClear v g

-- ---- together

-- the configuration is sound where rows went and came
pub record IsSoundThere (d : ConfigRows) (go come : List ConfigRow) : Type 0 where
  pub came : (r : ConfigRow) → Contains come r → MayCome d r
  pub gone : (r : ConfigRow) → Contains go r → MayGo d r
  pub counts : (f : Fabric) → HasSoundCounts (zoning_at d f)
  pub few_groups : HasFewGroups d.mapping
  pub no_clash : (n : List ℕ) → IsTouched d.mapping come n → IsClearAt d.mapping n
