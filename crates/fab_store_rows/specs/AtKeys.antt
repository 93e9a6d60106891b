-- The rows of a configuration at a key, table by table: what the private loops say of themselves. No
-- public contract names anything of this file.
use Rattle.std.specs.Prelude.{ℕ, ◌≡◌, ◌⊎◌, List, Contains, Option, None, Some}
use Rattle.std.specs.BTreeSet.{BTreeSet}
use Rattle.std.specs.FinMap as map
use Rattle.fab_reach_base.specs.fab_names.declared.fabric.Fabric.{Fabric}
use Rattle.fab_reach_base.specs.fab_zoning.Zonings.{FabricZoning, permits}
use Rattle.fab_reach_base.specs.fab_mapping_base.Groups.{HostGroupRows, StorageGroupRows}
use Rattle.fab_reach_base.specs.fab_mapping.Mappings.{MappingRows}
use Rattle.fab_reach_base.specs.Records.{ConfigRows}
use Rattle.fab_store_rows.specs.declared.config_row.SettingRow.TheVariants.{ActiveSet, DefaultZone}
use Rattle.fab_store_rows.specs.declared.config_row.ConfigRow.{ConfigRow}
use Rattle.fab_store_rows.specs.declared.config_row.ConfigRow.TheVariants as config
use Rattle.fab_store_rows.specs.declared.row_key.RowKey.{RowKey}
use Rattle.fab_store_rows.specs.Standing.{Stands}
use Rattle.fab_store_rows.specs.Gathering.{RowOfSome, IsActiveRow, IsHostGroupRow, IsStorageGroupRow}
use Rattle.fab_store_rows.specs.Keys.{key_of}

-- the row of an item of the set, if there is one
abbrev pub RowOfAny : {K : Type 0} → (K → ConfigRow) → Option (BTreeSet K) → ConfigRow → Type 0
RowOfAny row None r = ⊥
RowOfAny row (Some s) r = RowOfSome row s.keys r

-- a row of the active set, or the one that has its name
abbrev pub IsActiveSetRow : Fabric → FabricZoning → ConfigRow → Type 0
IsActiveSetRow f v r = IsActiveRow f v r ⊎ (r ≡ config.Setting (ActiveSet f v.active))

-- the row of what the default zone is
abbrev pub IsDefaultRow : Fabric → FabricZoning → ConfigRow → Type 0
IsDefaultRow f v r = r ≡ config.Setting (DefaultZone f (permits v.flag))

-- a row of the host group of this name, which is there
abbrev pub IsHostGroupRowAt : List ℕ → MappingRows → ConfigRow → Type 0
IsHostGroupRowAt n m r = (g : HostGroupRows) × (map.get m.host_groups n ≡ Some g) × IsHostGroupRow n g r

-- a row of the storage group of this name, which is there
abbrev pub IsStorageGroupRowAt : List ℕ → MappingRows → ConfigRow → Type 0
IsStorageGroupRowAt n m r = (g : StorageGroupRows) × (map.get m.groups n ≡ Some g) × IsStorageGroupRow n g r

-- the row stands at the key
abbrev pub IsRowAt : ConfigRows → RowKey → ConfigRow → Type 0
IsRowAt c k r = (key_of r ≡ k) × Stands c r

-- the row stands at one of the keys
abbrev pub IsRowAtSome : ConfigRows → List RowKey → ConfigRow → Type 0
IsRowAtSome c ks r = (k : RowKey) × Contains ks k × IsRowAt c k r
