-- What keeps ports with their holder, and holders and volumes in the inventory.
use Rattle.std.specs.Prelude.{ℕ, ◌≡◌, List}
use Rattle.fab_reach_base.specs.fab_inventory.Inventories.{InventoryRows}
use Rattle.fab_reach_base.specs.fab_inventory.declared.holder.HolderKind.{HolderKind}
use Rattle.fab_reach_base.specs.fab_inventory.declared.holder.HolderKind.TheVariants as kind
use Rattle.fab_reach_base.specs.fab_mapping.Mappings.{MappingRows}
use Rattle.fab_world.specs.fab_plans.declared.fault.Item.TheVariants as item
use Rattle.fab_desk_base.specs.Users.{IsLeavingTarget, IsHolderUser, IsVolumeUser}
use Rattle.fab_desk_base.specs.declared.fault.DeskFault.{DeskFault}
use Rattle.fab_desk_base.specs.declared.fault.DeskFault.TheVariants as fault

-- of an array the least port that would leave it and that a storage group targets, with the first
-- such group by name; nothing keeps the ports of a host
abbrev pub IsKeptTarget : InventoryRows → MappingRows → HolderKind → List ℕ → List ℕ → ℕ × List ℕ → Type 0
IsKeptTarget v m kind.Host n listed e = ⊥
IsKeptTarget v m kind.Array n listed e = IsLeavingTarget v m n listed e

-- the fault names the holder, and the first group by name that has the host or is of the array
abbrev pub IsUsedBy : MappingRows → HolderKind → List ℕ → DeskFault → Type 0
IsUsedBy m k n (fault.InUse (item.Name a) user) = (a ≡ n) × IsHolderUser m k n user
IsUsedBy m k n _ = ⊥

-- the fault names the volume, and the first storage group by name that maps it
abbrev pub IsMappedBy : MappingRows → List ℕ → DeskFault → Type 0
IsMappedBy m n (fault.InUse (item.Name a) user) = (a ≡ n) × IsVolumeUser m n user
IsMappedBy m n _ = ⊥
