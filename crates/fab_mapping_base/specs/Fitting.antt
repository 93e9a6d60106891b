-- What host groups and storage groups name in an inventory.
use Rattle.std.specs.Prelude.{ℕ, ◌≡◌, ◌≢◌, List, Some, true}
use Rattle.std.specs.FinMap as map
use Rattle.std.specs.FinSet as set
use Rattle.fab_inventory.specs.declared.holder.Volume.{Volume}
use Rattle.fab_inventory.specs.Holders.{holder_in}
use Rattle.fab_inventory.specs.Inventories.{InventoryRows, IsHost, IsArray}
use Rattle.fab_mapping_base.specs.Groups.{HostGroupRows, StorageGroupRows, MapsVolume}

-- the port is known, and the array holds it
abbrev pub IsPortOf : InventoryRows → List ℕ → ℕ → Type 0
IsPortOf inventory array target = holder_in (map.get inventory.ports) target ≡ Some array

-- the volume is there, and on the array
abbrev pub IsVolumeOn : InventoryRows → List ℕ → List ℕ → Type 0
IsVolumeOn inventory array volume = (x : Volume) × (map.get inventory.volumes volume ≡ Some x) × (x.array ≡ array)

-- the volume is there, and on another array
abbrev pub IsVolumeElsewhere : InventoryRows → List ℕ → List ℕ → Type 0
IsVolumeElsewhere inventory array volume = (x : Volume) × (map.get inventory.volumes volume ≡ Some x) × (x.array ≢ array)

-- each host of the host group is a host
abbrev pub HasHosts : InventoryRows → HostGroupRows → Type 0
HasHosts inventory g = (host : List ℕ) → set.contains g.hosts host ≡ true → IsHost inventory.holders host

-- each target of the storage group is a port of this array
abbrev pub HasTargets : InventoryRows → List ℕ → StorageGroupRows → Type 0
HasTargets inventory array g = (q : ℕ) → set.contains g.targets q ≡ true → IsPortOf inventory array q

-- each volume that the storage group maps is on this array
abbrev pub HasVolumes : InventoryRows → List ℕ → StorageGroupRows → Type 0
HasVolumes inventory array g = (u : ℕ) (volume : List ℕ) → map.get g.units u ≡ Some volume → IsVolumeOn inventory array volume

-- the storage group's array is an array, which holds its targets and has its volumes
pub record GroupFits (inventory : InventoryRows) (g : StorageGroupRows) : Type 0 where
  pub on_array : IsArray inventory.holders g.array
  pub targets : HasTargets inventory g.array g
  pub volumes : HasVolumes inventory g.array g

-- ---- what is gone

-- the host group has the host, and no host has this name
abbrev pub LacksHost : InventoryRows → HostGroupRows → List ℕ → Type 0
LacksHost inventory g host = (set.contains g.hosts host ≡ true) × ¬ IsHost inventory.holders host

-- the storage group is of the array, and no array has this name
abbrev pub LacksArray : InventoryRows → StorageGroupRows → List ℕ → Type 0
LacksArray inventory g array = (array ≡ g.array) × ¬ IsArray inventory.holders array

-- the storage group has the target, and its array does not hold it
abbrev pub LacksTarget : InventoryRows → StorageGroupRows → ℕ → Type 0
LacksTarget inventory g q = (set.contains g.targets q ≡ true) × ¬ IsPortOf inventory g.array q

-- the storage group maps the volume, and it is not on the group's array
abbrev pub LacksVolume : InventoryRows → StorageGroupRows → List ℕ → Type 0
LacksVolume inventory g volume = MapsVolume volume g × ¬ IsVolumeOn inventory g.array volume
