-- Which mappings are sound: of themselves, and beside an inventory. Every mapping that was changed by
-- steps alone is both.
use Rattle.std.specs.Prelude.{ℕ, ◌≡◌, ◌≤◌, List, Option, Some}
use Rattle.std.specs.FinMap as map
use Rattle.fab_mapping_base.specs.fab_inventory.Inventories.{InventoryRows}
use Rattle.fab_mapping_base.specs.Limits.{most_host_groups, most_storage_groups}
use Rattle.fab_mapping.specs.Mappings.{MappingRows}
pub use Rattle.fab_mapping_base.specs.Soundness.{IsSoundHostGroup, HasFewParts, HasUnitNumbers, HasKnownHosts, IsSoundGroup}
pub use Rattle.fab_mapping_base.specs.Fitting.{HasHosts, HasTargets, HasVolumes, GroupFits}

-- whatever stands under a name has the property
abbrev pub Each : {X : Type 0} → (List ℕ → Option X) → (X → Type 0) → Type 0
Each {X} at P = (n : List ℕ) (x : X) → at n ≡ Some x → P x

-- ---- of itself

-- a sound mapping: its groups are sound, and no limit is passed
pub record IsSound (v : MappingRows) : Type 0 where
  pub host_groups : Each (map.get v.host_groups) IsSoundHostGroup
  pub groups : Each (map.get v.groups) (IsSoundGroup (map.get v.host_groups))
  pub few_host_groups : map.len v.host_groups ≤ most_host_groups
  pub few_groups : map.len v.groups ≤ most_storage_groups

-- ---- beside an inventory

-- what the groups name is in the inventory
pub record Fits (inventory : InventoryRows) (v : MappingRows) : Type 0 where
  pub host_groups : Each (map.get v.host_groups) (HasHosts inventory)
  pub groups : Each (map.get v.groups) (GroupFits inventory)

-- ---- what steps keep

-- a step that is lent this inventory leaves a sound mapping sound, and lets one that fits fit
pub record Keeps (inventory : InventoryRows) (old new : MappingRows) : Type 0 where
  pub sound : IsSound old → IsSound new
  pub fits : Fits inventory old → Fits inventory new

-- a step that is lent none, for any inventory
abbrev pub KeepsAll : MappingRows → MappingRows → Type 0
KeepsAll old new = (inventory : InventoryRows) → Keeps inventory old new
