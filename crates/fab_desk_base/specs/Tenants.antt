-- Whose things are.
use Rattle.std.specs.Prelude.{ℕ, ◌≡◌, ◌⊎◌, List, Some, IsTrue}
use Rattle.std.specs.BTreeSet.{BTreeSet, contains}
use Rattle.std.specs.FinMap as map
use Rattle.fab_reach_base.specs.fab_names.Orders.{name_cmp}
use Rattle.fab_reach_base.specs.fab_inventory.declared.holder.HolderKind.{HolderKind}
use Rattle.fab_reach_base.specs.fab_inventory.declared.holder.HolderKind.TheVariants as kind
use Rattle.fab_reach_base.specs.fab_inventory.declared.holder.Volume.{Volume}
use Rattle.fab_reach_base.specs.fab_inventory.Inventories.{InventoryRows}
use Rattle.fab_reach_base.specs.fab_mapping_base.Groups.{HostGroupRows, StorageGroupRows}
use Rattle.fab_reach_base.specs.fab_mapping.Mappings.{MappingRows}
use Rattle.fab_reach_base.specs.Records.{Records}
use Rattle.fab_reach_base.specs.Reach.{IsInitiatorOf}
use Rattle.fab_reach_base.specs.declared.path.Path.{Path}

-- something that has a tenant, by its name
pub data Thing : Type 0 where
  holder : HolderKind → List ℕ → Thing
  volume : List ℕ → Thing
  host_group : List ℕ → Thing
  storage_group : List ℕ → Thing

-- the tenant of the host or array of this name
abbrev pub IsHolderOf : InventoryRows → HolderKind → List ℕ → List ℕ → Type 0
IsHolderOf v k n t = map.get v.holders n ≡ Some (record { kind = k; tenant = t })

-- the tenant of the volume of this name
abbrev pub IsVolumeOf : InventoryRows → List ℕ → List ℕ → Type 0
IsVolumeOf v n t = (x : Volume) × (map.get v.volumes n ≡ Some x) × (x.tenant ≡ t)

-- the tenant of the host group of this name
abbrev pub IsHostGroupOf : MappingRows → List ℕ → List ℕ → Type 0
IsHostGroupOf m n t = (g : HostGroupRows) × (map.get m.host_groups n ≡ Some g) × (g.tenant ≡ t)

-- the tenant of the storage group of this name
abbrev pub IsGroupOf : MappingRows → List ℕ → List ℕ → Type 0
IsGroupOf m n t = (g : StorageGroupRows) × (map.get m.groups n ≡ Some g) × (g.tenant ≡ t)

-- the thing is there, and is the tenant's
abbrev pub IsTenantOf : Records → Thing → List ℕ → Type 0
IsTenantOf w (holder k n) t = IsHolderOf w.inventory k n t
IsTenantOf w (volume n) t = IsVolumeOf w.inventory n t
IsTenantOf w (host_group n) t = IsHostGroupOf w.config.mapping n t
IsTenantOf w (storage_group n) t = IsGroupOf w.config.mapping n t

-- the host of the path, or its volume, is the tenant's
abbrev pub IsPathOf : Records → Path → List ℕ → Type 0
IsPathOf w x t = ((h : List ℕ) × IsInitiatorOf w x.initiator h × IsHolderOf w.inventory kind.Host h t) ⊎ IsVolumeOf w.inventory x.volume t

-- the set has the name
abbrev pub Has : BTreeSet (List ℕ) → List ℕ → Type 0
Has s n = IsTrue (contains name_cmp s n)
