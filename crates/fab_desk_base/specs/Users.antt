-- What the configuration uses, so that it can't go.
use Rattle.std.specs.Prelude.{ℕ, ◌≡◌, ◌≢◌, List, Some}
use Rattle.std.specs.FinMap as map
use Rattle.fab_reach_base.specs.fab_lemmas.Firsts.{IsFirstWith, HasAt}
use Rattle.fab_reach_base.specs.fab_names.Orders.{name_cmp}
use Rattle.fab_reach_base.specs.fab_inventory.declared.holder.HolderKind.{HolderKind}
use Rattle.fab_reach_base.specs.fab_inventory.declared.holder.HolderKind.TheVariants as kind
use Rattle.fab_reach_base.specs.fab_inventory.declared.holder.Volume.{Volume}
use Rattle.fab_reach_base.specs.fab_inventory.Inventories.{InventoryRows}
use Rattle.fab_reach_base.specs.fab_inventory.Holders.{IsLeast, Leaves}
use Rattle.fab_reach_base.specs.fab_mapping_base.Groups.{HoldsHost, HasTarget, IsOfArray, MapsVolume}
use Rattle.fab_reach_base.specs.fab_mapping.Mappings.{MappingRows}

-- the first host group by name that has the host
abbrev pub IsHostUser : MappingRows → List ℕ → List ℕ → Type 0
IsHostUser m host = IsFirstWith name_cmp (HasAt (map.get m.host_groups) (HoldsHost host))

-- the first storage group by name that is of the array
abbrev pub IsArrayUser : MappingRows → List ℕ → List ℕ → Type 0
IsArrayUser m array = IsFirstWith name_cmp (HasAt (map.get m.groups) (IsOfArray array))

-- the first storage group by name that has the target
abbrev pub IsTargetUser : MappingRows → ℕ → List ℕ → Type 0
IsTargetUser m port = IsFirstWith name_cmp (HasAt (map.get m.groups) (HasTarget port))

-- the first storage group by name that maps the volume
abbrev pub IsVolumeUser : MappingRows → List ℕ → List ℕ → Type 0
IsVolumeUser m volume = IsFirstWith name_cmp (HasAt (map.get m.groups) (MapsVolume volume))

-- the first group by name that has the host, or is of the array
abbrev pub IsHolderUser : MappingRows → HolderKind → List ℕ → List ℕ → Type 0
IsHolderUser m kind.Host n = IsHostUser m n
IsHolderUser m kind.Array n = IsArrayUser m n

-- the port would leave the array once it had just the listed ports, and a storage group targets it
abbrev pub LeavesGroup : InventoryRows → MappingRows → List ℕ → List ℕ → ℕ → Type 0
LeavesGroup v m array listed q = Leaves (map.get v.ports) array listed q × ((n : List ℕ) × HasAt (map.get m.groups) (HasTarget q) n)

-- the least such port, with the first storage group by name that targets it
abbrev pub IsLeavingTarget : InventoryRows → MappingRows → List ℕ → List ℕ → ℕ × List ℕ → Type 0
IsLeavingTarget v m array listed e = IsLeast (LeavesGroup v m array listed) e.0 × IsTargetUser m e.0 e.1

-- the volume is on another array than this
abbrev pub IsMoved : InventoryRows → List ℕ → List ℕ → Type 0
IsMoved v n array = (x : Volume) × (map.get v.volumes n ≡ Some x) × (x.array ≢ array)

-- the volume is on another array than this, and this is the first storage group by name that maps it
abbrev pub IsMovedUser : InventoryRows → MappingRows → List ℕ → List ℕ → List ℕ → Type 0
IsMovedUser v m n array user = IsMoved v n array × IsVolumeUser m n user
