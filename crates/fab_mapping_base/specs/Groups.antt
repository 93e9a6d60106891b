-- Host groups and storage groups, as contracts see them.
use Rattle.std.specs.Prelude.{ℕ, ◌≡◌, ◌≢◌, ◌≤◌, List, None, Some, Bool, true, false, refl}
use Rattle.std.specs.Coded.{Coded, code_by, coded×, coded_ℕ, coded_bool}
use Rattle.std.specs.Ordering.{nat_cmp}
use Rattle.std.specs.FinMap as map
use Rattle.std.specs.FinSet as set
use Rattle.fab_inventory.specs.fab_lemmas.Room.{HasRoom, IsFullSet, SetHasRoom}
use Rattle.fab_inventory.specs.fab_names.Orders.{name_cmp}
use Rattle.fab_inventory.specs.fab_names.Codes.{name_code}
use Rattle.fab_mapping_base.specs.Limits.{most_groups_served, most_targets, most_units}
use Rattle.fab_mapping_base.specs.declared.fault.MappingFault.{MappingFault}
use Rattle.fab_mapping_base.specs.declared.fault.MappingFault.TheVariants.{UnitTaken, Limit, Memory}
use Rattle.fab_mapping_base.specs.declared.fault.MappingLimit.TheVariants.{Parts}

-- a finite set of names
abbrev pub Names : Type 0
Names = set.FinSet name_cmp

-- a finite set of ports
abbrev pub Ports : Type 0
Ports = set.FinSet nat_cmp

-- the volumes by logical unit number
abbrev pub Units : Type 0
Units = map.FinMap nat_cmp (List ℕ)

-- a host group: whose it is, and its hosts
pub record HostGroupRows : Type 0 where
  pub tenant : List ℕ
  pub hosts : Names

-- a storage group: whose it is, its array, its host groups, its target ports, its volumes by
-- logical unit number, and whether it is exposed
pub record StorageGroupRows : Type 0 where
  pub tenant : List ℕ
  pub array : List ℕ
  pub host_groups : Names
  pub targets : Ports
  pub units : Units
  pub exposed : Bool

-- a host group as the pair of its parts
abbrev pub host_group_code : Coded HostGroupRows
host_group_code = code_by (List ℕ × Names) (coded× name_code (set.code name_code)) (λ g. (g.tenant, g.hosts)) (λ p. record { tenant = p.0; hosts = p.1 }) (λ _. refl)

-- a storage group as the tuple of its parts
abbrev pub storage_group_code : Coded StorageGroupRows
storage_group_code =
    code_by ((List ℕ × List ℕ) × (Names × (Ports × (Units × Bool)))) (coded× (coded× name_code name_code) (coded× (set.code name_code) (coded× (set.code coded_ℕ) (coded× (map.code coded_ℕ name_code) coded_bool))))
    (λ g. ((g.tenant, g.array), (g.host_groups, (g.targets, (g.units, g.exposed)))))
    (λ p. record { tenant = p.0.0; array = p.0.1; host_groups = p.1.0; targets = p.1.1.0; units = p.1.1.1.0; exposed = p.1.1.1.1 })
    (λ _. refl)

-- the host group of the listed hosts
abbrev pub host_group_of : List ℕ → List (List ℕ) → HostGroupRows
host_group_of tenant hosts = record { tenant = tenant; hosts = set.from_list hosts }

-- a new storage group: hidden and empty
abbrev pub new_storage_group : List ℕ → List ℕ → StorageGroupRows
new_storage_group tenant array = record { tenant = tenant; array = array; host_groups = set.empty; targets = set.empty; units = map.empty; exposed = false }

-- ---- what a group has

-- the host group has the host
abbrev pub HoldsHost : List ℕ → HostGroupRows → Type 0
HoldsHost host g = set.contains g.hosts host ≡ true

-- the storage group has the target
abbrev pub HasTarget : ℕ → StorageGroupRows → Type 0
HasTarget target g = set.contains g.targets target ≡ true

-- the storage group is of the array
abbrev pub IsOfArray : List ℕ → StorageGroupRows → Type 0
IsOfArray array g = g.array ≡ array

-- the storage group maps the volume, at some unit
abbrev pub MapsVolume : List ℕ → StorageGroupRows → Type 0
MapsVolume volume g = (u : ℕ) × (map.get g.units u ≡ Some volume)

-- ---- one part more, or one less

-- with one host group more
abbrev pub with_hosts : List ℕ → StorageGroupRows → StorageGroupRows
with_hosts hosts g = record g { host_groups = set.insert g.host_groups hosts }

-- without this host group
abbrev pub without_hosts : List ℕ → StorageGroupRows → StorageGroupRows
without_hosts hosts g = record g { host_groups = set.remove g.host_groups hosts }

-- with one target more
abbrev pub with_target : ℕ → StorageGroupRows → StorageGroupRows
with_target target g = record g { targets = set.insert g.targets target }

-- without this target
abbrev pub without_target : ℕ → StorageGroupRows → StorageGroupRows
without_target target g = record g { targets = set.remove g.targets target }

-- with this volume at this unit
abbrev pub with_unit : ℕ → List ℕ → StorageGroupRows → StorageGroupRows
with_unit unit volume g = record g { units = map.insert g.units unit volume }

-- with nothing at this unit
abbrev pub without_unit : ℕ → StorageGroupRows → StorageGroupRows
without_unit unit g = record g { units = map.remove g.units unit }

-- exposed, or hidden
abbrev pub exposed_as : Bool → StorageGroupRows → StorageGroupRows
exposed_as exposed g = record g { exposed = exposed }

-- ---- what one part more needs

-- this host group is there already, or there is room for it
abbrev pub HasRoomForHosts : StorageGroupRows → List ℕ → Type 0
HasRoomForHosts g hosts = SetHasRoom g.host_groups hosts most_groups_served

-- this target is there already, or there is room for it
abbrev pub HasRoomForTarget : StorageGroupRows → ℕ → Type 0
HasRoomForTarget g target = SetHasRoom g.targets target most_targets

-- a volume is at this unit already, or there is room for one
abbrev pub HasRoomForUnit : StorageGroupRows → ℕ → Type 0
HasRoomForUnit g unit = HasRoom g.units unit most_units

-- no other volume is at this unit
abbrev pub HasFreeUnit : StorageGroupRows → ℕ → List ℕ → Type 0
HasFreeUnit g unit volume = (other : List ℕ) → map.get g.units unit ≡ Some other → other ≡ volume

-- ---- two storage groups

-- both have the same tenant, are on the same array, and are exposed or hidden alike
pub record HaveSameHead (g h : StorageGroupRows) : Type 0 where
  pub tenant : g.tenant ≡ h.tenant
  pub array : g.array ≡ h.array
  pub exposed : g.exposed ≡ h.exposed

-- ---- what refuses one part more

-- it has as many host groups as it may have, and this one is not among them
abbrev pub AddHostsLimit : StorageGroupRows → List ℕ → MappingFault → Type 0
AddHostsLimit g hosts (Limit Parts) = IsFullSet g.host_groups hosts most_groups_served
AddHostsLimit g hosts Memory = Unit {0}
AddHostsLimit g hosts _ = ⊥

-- it has as many targets as it may have, and this one is not among them
abbrev pub AddTargetLimit : StorageGroupRows → ℕ → MappingFault → Type 0
AddTargetLimit g target (Limit Parts) = IsFullSet g.targets target most_targets
AddTargetLimit g target Memory = Unit {0}
AddTargetLimit g target _ = ⊥

-- another volume is at this unit; or none is, and it has as many units as it may have
abbrev pub MapRefusal : StorageGroupRows → ℕ → List ℕ → MappingFault → Type 0
MapRefusal g unit volume (UnitTaken u) = (u ≡ unit) × ((other : List ℕ) × (map.get g.units unit ≡ Some other) × (other ≢ volume))
MapRefusal g unit volume (Limit Parts) = (map.get g.units unit ≡ None) × (most_units ≤ map.len g.units)
MapRefusal g unit volume Memory = Unit {0}
MapRefusal g unit volume _ = ⊥
