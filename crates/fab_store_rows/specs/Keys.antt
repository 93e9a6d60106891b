-- At which key a row of a configuration stands, and configurations that have the same rows but at
-- some keys.
use Rattle.std.specs.Prelude.{◌↔◌, IsTrue}
use Rattle.std.specs.declared.cmp.Ordering.{Ordering}
use Rattle.std.specs.BTreeSet.{BTreeSet, contains}
use Rattle.fab_reach_base.specs.fab_names.declared.fabric.Fabric.{Fabric}
use Rattle.fab_reach_base.specs.Records.{ConfigRows}
use Rattle.fab_store_rows.specs.declared.config_row.ConfigRow.{ConfigRow}
use Rattle.fab_store_rows.specs.declared.config_row.ConfigRow.TheVariants as config
use Rattle.fab_store_rows.specs.declared.config_row.SettingRow.TheVariants as setting
use Rattle.fab_store_rows.specs.declared.config_row.ZoningItem.{ZoningItem}
use Rattle.fab_store_rows.specs.declared.config_row.ZoningItem.TheVariants as item
use Rattle.fab_store_rows.specs.declared.config_row.GroupRow.TheVariants as group
use Rattle.fab_store_rows.specs.declared.config_row.PartRow.TheVariants as part
use Rattle.fab_store_rows.specs.declared.row_key.RowKey.{RowKey}
use Rattle.fab_store_rows.specs.declared.row_key.RowKey.TheVariants.{Alias, Zone, ZoneSet, ActiveSet, DefaultZone, HostGroup, StorageGroup}
use Rattle.fab_store_rows.specs.Standing.{Stands}
use Rattle.fab_store_rows.specs.contracts.row_key.RowKeyOrd.TheImpl as keys

-- the key of an item of a fabric's aliases, zones and zone sets
abbrev pub item_key : Fabric → ZoningItem → RowKey
item_key f (item.Alias n m) = Alias f n
item_key f (item.Zone n m) = Zone f n
item_key f (item.Set n z) = ZoneSet f n

-- the key at which a row stands
abbrev pub key_of : ConfigRow → RowKey
key_of (config.Setting (setting.ActiveSet f n)) = ActiveSet f
key_of (config.Setting (setting.DefaultZone f p)) = DefaultZone f
key_of (config.Zoning r) = item_key r.fabric r.item
key_of (config.Active r) = ActiveSet r.fabric
key_of (config.Group (group.Host r)) = HostGroup r.name
key_of (config.Group (group.Storage r)) = StorageGroup r.name
key_of (config.Part (part.Host n h)) = HostGroup n
key_of (config.Part (part.Storage n p)) = StorageGroup n

-- the order of keys, as the code has it, which sets use
abbrev pub key_cmp : RowKey → RowKey → Ordering
key_cmp = keys.ghosts.cmp

-- the set has the key
abbrev pub HasKey : BTreeSet RowKey → RowKey → Type 0
HasKey s k = IsTrue (contains key_cmp s k)

-- the same rows stand in both, but at these keys
abbrev pub AgreeElsewhere : BTreeSet RowKey → ConfigRows → ConfigRows → Type 0
AgreeElsewhere s c d = (r : ConfigRow) → ¬ HasKey s (key_of r) → Stands c r ↔ Stands d r
