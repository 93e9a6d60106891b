-- Rows of a configuration, by what they tell.
use Rattle.std.specs.Prelude.{ℕ, List, true}
use Rattle.fab_reach_base.specs.fab_names.declared.fabric.Fabric.{Fabric}
use Rattle.fab_reach_base.specs.fab_names.declared.member.Member.{Member}
use Rattle.fab_reach_base.specs.fab_zoning.Zonings.{permits}
use Rattle.fab_reach_base.specs.fab_mapping_base.Groups.{StorageGroupRows}
use Rattle.fab_reach_base.specs.Records.{ConfigRows, zoning_at}
use Rattle.fab_store_rows.specs.declared.config_row.ConfigRow.{ConfigRow}
use Rattle.fab_store_rows.specs.declared.config_row.ConfigRow.TheVariants as config
use Rattle.fab_store_rows.specs.declared.config_row.SettingRow.TheVariants.{ActiveSet, DefaultZone}
use Rattle.fab_store_rows.specs.declared.config_row.ZoningItem.TheVariants.{Alias, Zone, Set}
use Rattle.fab_store_rows.specs.declared.config_row.GroupRow.TheVariants as group
use Rattle.fab_store_rows.specs.declared.config_row.PartRow.TheVariants as parts
use Rattle.fab_store_rows.specs.declared.config_row.StoragePart.{StoragePart}

-- ---- of a fabric

-- the settings that it has: the name of its active set, and what its default zone permits
abbrev pub name_row : Fabric → ConfigRows → ConfigRow
name_row f c = config.Setting (ActiveSet f (zoning_at c f).active)

abbrev pub flag_row : Fabric → ConfigRows → ConfigRow
flag_row f c = config.Setting (DefaultZone f (permits (zoning_at c f).flag))

-- an item of an alias, of a zone, of a zone set, of the active set
abbrev pub alias_row : Fabric → List ℕ → Member → ConfigRow
alias_row f n m = config.Zoning (record { fabric = f; item = Alias n m })

abbrev pub zone_row : Fabric → List ℕ → Member → ConfigRow
zone_row f n m = config.Zoning (record { fabric = f; item = Zone n m })

abbrev pub set_row : Fabric → List ℕ → List ℕ → ConfigRow
set_row f n z = config.Zoning (record { fabric = f; item = Set n z })

abbrev pub active_row : Fabric → List ℕ → Member → ConfigRow
active_row f z m = config.Active (record { fabric = f; zone = z; member = m })

-- ---- of groups

-- the head of a host group
abbrev pub host_head : List ℕ → List ℕ → ConfigRow
host_head n t = config.Group (group.Host (record { name = n; tenant = t }))

-- the head of an exposed storage group, and the head that a storage group has
abbrev pub storage_head : List ℕ → List ℕ → List ℕ → ConfigRow
storage_head n t r = config.Group (group.Storage (record { name = n; tenant = t; array = r; exposed = true }))

abbrev pub storage_row : List ℕ → StorageGroupRows → ConfigRow
storage_row n g = config.Group (group.Storage (record { name = n; tenant = g.tenant; array = g.array; exposed = g.exposed }))

-- a host of a host group, a part of a storage group
abbrev pub host_row : List ℕ → List ℕ → ConfigRow
host_row n h = config.Part (parts.Host n h)

abbrev pub part_row : List ℕ → StoragePart → ConfigRow
part_row n p = config.Part (parts.Storage n p)
