-- What contracts see of a mapping, and what its changes are.
use Rattle.std.specs.Prelude.{ℕ, ◌≡◌, ◌<◌, ◌≤◌, ◌⊎◌, List, length, All, None, Some, true, false, refl}
use Rattle.std.specs.Ordering.{is_gt}
use Rattle.std.specs.Coded.{Coded, code_by, coded×}
use Rattle.std.specs.FinMap as map
use Rattle.std.specs.FinSet as set
use Rattle.fab_mapping_base.specs.fab_lemmas.Firsts.{IsFirstWithout}
use Rattle.fab_mapping_base.specs.fab_lemmas.Room.{IsFull, HasRoom}
use Rattle.fab_mapping_base.specs.fab_names.Orders.{name_cmp}
use Rattle.fab_mapping_base.specs.fab_names.Codes.{name_code}
use Rattle.fab_mapping_base.specs.fab_inventory.Inventories.{InventoryRows, IsHost, IsArray}
use Rattle.fab_mapping_base.specs.Limits.{most_hosts, most_host_groups, most_storage_groups, last_unit}
use Rattle.fab_mapping_base.specs.declared.fault.MappingFault.{MappingFault}
use Rattle.fab_mapping_base.specs.declared.fault.MappingFault.TheVariants.{Unknown, UnknownPort, Exists, InUse, WrongArray, UnitTaken, NotMapped, Limit, Memory}
use Rattle.fab_mapping_base.specs.declared.fault.MappingLimit.TheVariants.{HostGroups, Hosts, Groups, Parts, UnitNumber}
use Rattle.fab_mapping_base.specs.declared.nexus.Nexus.{Nexus}
use Rattle.fab_mapping_base.specs.Groups.{HostGroupRows, StorageGroupRows, host_group_code, storage_group_code, AddHostsLimit, AddTargetLimit, MapRefusal}
use Rattle.fab_mapping_base.specs.Nexuses.{Claim}
pub use Rattle.fab_mapping_base.specs.Fitting.{IsPortOf, IsVolumeOn, IsVolumeElsewhere}
use Rattle.fab_mapping_base.specs.Clashes.{StorageGroups, Maps, IsLeastClashIn, HasNoClashIn}

-- the host groups and the storage groups, by name
pub record MappingRows : Type 0 where
  pub host_groups : map.FinMap name_cmp HostGroupRows
  pub groups : map.FinMap name_cmp StorageGroupRows

-- a mapping as the pair of its parts
abbrev pub mapping_code : Coded MappingRows
mapping_code =
    code_by (map.FinMap name_cmp HostGroupRows × map.FinMap name_cmp StorageGroupRows) (coded× (map.code name_code host_group_code) (map.code name_code storage_group_code)) (λ v. (v.host_groups, v.groups))
    (λ p. record { host_groups = p.0; groups = p.1 })
    (λ _. refl)

-- nothing is mapped yet
abbrev pub no_groups : MappingRows
no_groups = record { host_groups = map.empty; groups = map.empty }

-- ---- clashes

-- some exposed storage group maps the volume at the nexus
abbrev pub IsMapped : MappingRows → Claim → Type 0
IsMapped v = Maps (map.get v.host_groups) (map.get v.groups)

-- the least nexus at which exposed storage groups name two volumes
abbrev pub IsLeastClash : MappingRows → Nexus → Type 0
IsLeastClash v = IsLeastClashIn (IsMapped v)

-- exposed storage groups name at most one volume at each nexus
abbrev pub HasNoClash : MappingRows → Type 0
HasNoClash v = HasNoClashIn (IsMapped v)

-- ---- host groups

-- nothing refuses the host group
pub record CanPutHostGroup (v : MappingRows) (inventory : InventoryRows) (name : List ℕ) (hosts : List (List ℕ)) : Type 0 where
  pub few : length hosts ≤ most_hosts
  pub known : All (IsHost inventory.holders) hosts
  pub room : HasRoom v.host_groups name most_host_groups

-- what refuses it, in this order
abbrev pub PutHostGroupFails : MappingRows → InventoryRows → List ℕ → List (List ℕ) → MappingFault → Type 0
PutHostGroupFails v inventory name hosts (Limit Hosts) = most_hosts < length hosts
PutHostGroupFails v inventory name hosts (Unknown n) = (length hosts ≤ most_hosts) × IsFirstWithout (IsHost inventory.holders) hosts n
PutHostGroupFails v inventory name hosts (Limit HostGroups) = (length hosts ≤ most_hosts) × All (IsHost inventory.holders) hosts × IsFull v.host_groups name most_host_groups
PutHostGroupFails v inventory name hosts Memory = Unit {0}
PutHostGroupFails v inventory name hosts _ = ⊥

-- the storage group has the host group
abbrev pub Serves : StorageGroups → List ℕ → List ℕ → Type 0
Serves groups hosts n = (g : StorageGroupRows) × (groups n ≡ Some g) × (set.contains g.host_groups hosts ≡ true)

-- no storage group has the host group
abbrev pub IsUnservedIn : StorageGroups → List ℕ → Type 0
IsUnservedIn groups hosts = (n : List ℕ) → ¬ Serves groups hosts n

-- the storage group has the host group, and none before it by name has
abbrev pub IsLeastServing : StorageGroups → List ℕ → List ℕ → Type 0
IsLeastServing groups hosts n = Serves groups hosts n × ((m : List ℕ) → Serves groups hosts m → is_gt (name_cmp n m) ≡ false)

-- what refuses the drop of a host group: it is not there, or the least storage group by name that
-- has it
abbrev pub DropHostGroupFails : MappingRows → List ℕ → MappingFault → Type 0
DropHostGroupFails v name (Unknown n) = (n ≡ name) × (map.contains_key v.host_groups name ≡ false)
DropHostGroupFails v name (InUse n group) = (n ≡ name) × (map.contains_key v.host_groups name ≡ true) × IsLeastServing (map.get v.groups) name group
DropHostGroupFails v name _ = ⊥

-- ---- storage groups

-- nothing refuses the new group
pub record CanMakeGroup (v : MappingRows) (inventory : InventoryRows) (name array : List ℕ) : Type 0 where
  pub fresh : map.contains_key v.groups name ≡ false
  pub on_array : IsArray inventory.holders array
  pub room : map.len v.groups < most_storage_groups

-- what refuses it, in this order
abbrev pub NewGroupFails : MappingRows → InventoryRows → List ℕ → List ℕ → MappingFault → Type 0
NewGroupFails v inventory name array (Exists n) = (n ≡ name) × (map.contains_key v.groups name ≡ true)
NewGroupFails v inventory name array (Unknown n) = (n ≡ array) × (map.contains_key v.groups name ≡ false) × ¬ IsArray inventory.holders array
NewGroupFails v inventory name array (Limit Groups) = (map.contains_key v.groups name ≡ false) × IsArray inventory.holders array × (most_storage_groups ≤ map.len v.groups)
NewGroupFails v inventory name array Memory = Unit {0}
NewGroupFails v inventory name array _ = ⊥

-- there is no storage group of this name
abbrev pub NamesNoGroup : MappingRows → List ℕ → MappingFault → Type 0
NamesNoGroup v name (Unknown n) = (n ≡ name) × (map.get v.groups name ≡ None)
NamesNoGroup v name _ = ⊥

-- the storage group of this name is there, and becomes another; all else is as it was
pub record ChangesGroup (name : List ℕ) (change : StorageGroupRows → StorageGroupRows) (old new : MappingRows) : Type 0 where
  pub group : StorageGroupRows
  pub there : map.get old.groups name ≡ Some group
  pub after : new ≡ record old { groups = map.insert old.groups name (change group) }

-- the storage group of this name is there, and has the property
abbrev pub GroupHas : MappingRows → List ℕ → (StorageGroupRows → Type 0) → Type 0
GroupHas v name P = (g : StorageGroupRows) × (map.get v.groups name ≡ Some g) × P g

-- what refuses to add a host group, in this order: no such storage group, no such host group, or
-- one too many
abbrev pub AddHostsFails : MappingRows → List ℕ → List ℕ → MappingFault → Type 0
AddHostsFails v name hosts (Unknown n) = NamesNoGroup v name (Unknown n) ⊎ ((n ≡ hosts) × GroupHas v name (λ _. map.contains_key v.host_groups hosts ≡ false))
AddHostsFails v name hosts (Limit Parts) = (map.contains_key v.host_groups hosts ≡ true) × GroupHas v name (λ g. AddHostsLimit g hosts (Limit Parts))
AddHostsFails v name hosts Memory = Unit {0}
AddHostsFails v name hosts _ = ⊥

-- what refuses to remove a host group: no such storage group, or it does not have the host group
abbrev pub RemoveHostsFails : MappingRows → List ℕ → List ℕ → MappingFault → Type 0
RemoveHostsFails v name hosts (Unknown n) = NamesNoGroup v name (Unknown n) ⊎ ((n ≡ hosts) × GroupHas v name (λ g. set.contains g.host_groups hosts ≡ false))
RemoveHostsFails v name hosts _ = ⊥

-- what refuses to add a target, in this order: no such storage group, no such port, a port that the
-- group's array does not hold, or one too many
abbrev pub AddTargetFails : MappingRows → InventoryRows → List ℕ → ℕ → MappingFault → Type 0
AddTargetFails v inventory name target (Unknown n) = NamesNoGroup v name (Unknown n)
AddTargetFails v inventory name target (UnknownPort w) = (w ≡ target) × GroupHas v name (λ _. map.get inventory.ports target ≡ None)
AddTargetFails v inventory name target WrongArray = GroupHas v name (λ g. (map.contains_key inventory.ports target ≡ true) × ¬ IsPortOf inventory g.array target)
AddTargetFails v inventory name target (Limit Parts) = GroupHas v name (λ g. IsPortOf inventory g.array target × AddTargetLimit g target (Limit Parts))
AddTargetFails v inventory name target Memory = Unit {0}
AddTargetFails v inventory name target _ = ⊥

-- what refuses to remove a target: no such storage group, or it does not have the target
abbrev pub RemoveTargetFails : MappingRows → List ℕ → ℕ → MappingFault → Type 0
RemoveTargetFails v name target (Unknown n) = NamesNoGroup v name (Unknown n)
RemoveTargetFails v name target (UnknownPort w) = (w ≡ target) × GroupHas v name (λ g. set.contains g.targets target ≡ false)
RemoveTargetFails v name target _ = ⊥

-- what refuses to map a volume, in this order: a unit above the last, no such storage group, no such
-- volume, a volume on another array, another volume at the unit, or one too many
abbrev pub MapFails : MappingRows → InventoryRows → List ℕ → ℕ → List ℕ → MappingFault → Type 0
MapFails v inventory name unit volume (Limit UnitNumber) = last_unit < unit
MapFails v inventory name unit volume (Unknown n) = (unit ≤ last_unit) × (NamesNoGroup v name (Unknown n) ⊎ ((n ≡ volume) × GroupHas v name (λ _. map.get inventory.volumes volume ≡ None)))
MapFails v inventory name unit volume WrongArray = (unit ≤ last_unit) × GroupHas v name (λ g. IsVolumeElsewhere inventory g.array volume)
MapFails v inventory name unit volume (UnitTaken u) = (unit ≤ last_unit) × GroupHas v name (λ g. IsVolumeOn inventory g.array volume × MapRefusal g unit volume (UnitTaken u))
MapFails v inventory name unit volume (Limit Parts) = (unit ≤ last_unit) × GroupHas v name (λ g. IsVolumeOn inventory g.array volume × MapRefusal g unit volume (Limit Parts))
MapFails v inventory name unit volume Memory = Unit {0}
MapFails v inventory name unit volume _ = ⊥

-- what refuses to unmap a unit: no such storage group, or nothing is there
abbrev pub UnmapFails : MappingRows → List ℕ → ℕ → MappingFault → Type 0
UnmapFails v name unit (Unknown n) = NamesNoGroup v name (Unknown n)
UnmapFails v name unit (NotMapped u) = (u ≡ unit) × GroupHas v name (λ g. map.get g.units unit ≡ None)
UnmapFails v name unit _ = ⊥
