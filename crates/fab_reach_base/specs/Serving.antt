-- What a book may ask of a world.
use Rattle.std.specs.Prelude.{ℕ, ◌≡◌, List, Some, true}
use Rattle.std.specs.FinMap as map
use Rattle.std.specs.FinSet as set
use Rattle.fab_mapping.specs.fab_mapping_base.fab_names.declared.fabric.Fabric.{Fabric}
use Rattle.fab_mapping.specs.fab_mapping_base.fab_inventory.Holders.{holder_in}
use Rattle.fab_mapping.specs.fab_mapping_base.fab_inventory.Inventories.{InventoryRows, IsHost, IsArray}
use Rattle.fab_mapping.specs.fab_mapping_base.Fitting.{HasHosts}
use Rattle.fab_mapping.specs.fab_mapping_base.Groups.{HostGroupRows, StorageGroupRows}
use Rattle.fab_mapping.specs.Mappings.{MappingRows}
use Rattle.fab_reach_base.specs.Records.{Records, zoning_at}

-- an array holds the port of this name
abbrev pub IsArrayPort : InventoryRows → ℕ → Type 0
IsArrayPort v q = (array : List ℕ) × (holder_in (map.get v.ports) q ≡ Some array) × IsArray v.holders array

-- arrays hold the targets of the storage group
abbrev pub AreTargets : InventoryRows → StorageGroupRows → Type 0
AreTargets v g = (q : ℕ) → set.contains g.targets q ≡ true → IsArrayPort v q

-- the hosts of all host groups are hosts
abbrev pub HaveHosts : InventoryRows → MappingRows → Type 0
HaveHosts v m = (n : List ℕ) (k : HostGroupRows) → map.get m.host_groups n ≡ Some k → HasHosts v k

-- arrays hold the targets of all storage groups
abbrev pub HaveTargets : InventoryRows → MappingRows → Type 0
HaveTargets v m = (n : List ℕ) (g : StorageGroupRows) → map.get m.groups n ≡ Some g → AreTargets v g

-- each zoning is its fabric's, the hosts of host groups are hosts, and arrays hold the targets of
-- storage groups: parts of what makes a world sound
pub record IsServing (w : Records) : Type 0 where
  pub fabrics : (f : Fabric) → (zoning_at w.config f).fabric ≡ f
  pub hosts : HaveHosts w.inventory w.config.mapping
  pub targets : HaveTargets w.inventory w.config.mapping
