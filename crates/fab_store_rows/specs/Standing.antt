-- Which rows stand in a configuration, and in an inventory: what each table says of a row.
use Rattle.std.specs.Prelude.{ℕ, ◌≡◌, Option, Some, true}
use Rattle.std.specs.Option.{option_map, option_and_then}
use Rattle.std.specs.FinMap as map
use Rattle.std.specs.FinSet as set
use Rattle.fab_reach_base.specs.fab_inventory.declared.holder.Holder.{Holder}
use Rattle.fab_reach_base.specs.fab_inventory.declared.holder.Volume.{Volume}
use Rattle.fab_reach_base.specs.fab_inventory.declared.port.Known.{Known}
use Rattle.fab_reach_base.specs.fab_inventory.declared.port.Port.{Port}
use Rattle.fab_reach_base.specs.fab_inventory.Ports.{KnownPorts, port_at}
use Rattle.fab_reach_base.specs.fab_inventory.Inventories.{InventoryRows}
use Rattle.fab_reach_base.specs.fab_lemmas.MapsOfSets.{has}
use Rattle.fab_reach_base.specs.fab_lemmas.Firsts.{HasAt}
use Rattle.fab_reach_base.specs.fab_zoning.Zonings.{FabricZoning, permits}
use Rattle.fab_reach_base.specs.fab_mapping_base.Groups.{HostGroupRows, StorageGroupRows}
use Rattle.fab_reach_base.specs.fab_mapping.Mappings.{MappingRows}
use Rattle.fab_reach_base.specs.Records.{ConfigRows, zoning_at}
use Rattle.fab_store_rows.specs.declared.config_row.SettingRow.{SettingRow}
use Rattle.fab_store_rows.specs.declared.config_row.SettingRow.TheVariants.{ActiveSet, DefaultZone}
use Rattle.fab_store_rows.specs.declared.config_row.ZoningItem.{ZoningItem}
use Rattle.fab_store_rows.specs.declared.config_row.ZoningItem.TheVariants.{Alias, Zone, Set}
use Rattle.fab_store_rows.specs.declared.config_row.HostGroupRow.{HostGroupRow}
use Rattle.fab_store_rows.specs.declared.config_row.StorageGroupRow.{StorageGroupRow}
use Rattle.fab_store_rows.specs.declared.config_row.GroupRow.{GroupRow}
use Rattle.fab_store_rows.specs.declared.config_row.GroupRow.TheVariants as group
use Rattle.fab_store_rows.specs.declared.config_row.StoragePart.{StoragePart}
use Rattle.fab_store_rows.specs.declared.config_row.StoragePart.TheVariants as part
use Rattle.fab_store_rows.specs.declared.config_row.PartRow.{PartRow}
use Rattle.fab_store_rows.specs.declared.config_row.PartRow.TheVariants as parts
use Rattle.fab_store_rows.specs.declared.config_row.ConfigRow.{ConfigRow}
use Rattle.fab_store_rows.specs.declared.config_row.ConfigRow.TheVariants as config
use Rattle.fab_store_rows.specs.declared.inventory_row.PortEntry.{PortEntry}
use Rattle.fab_store_rows.specs.declared.inventory_row.HolderRow.{HolderRow}
use Rattle.fab_store_rows.specs.declared.inventory_row.VolumeRow.{VolumeRow}
use Rattle.fab_store_rows.specs.declared.inventory_row.InventoryRow.{InventoryRow}
use Rattle.fab_store_rows.specs.declared.inventory_row.InventoryRow.TheVariants as inventory

-- ---- a configuration

-- the active zone set of the fabric has this name, or none is active; its default zone permits, or
-- denies
abbrev pub IsSetting : ConfigRows → SettingRow → Type 0
IsSetting c (ActiveSet fabric name) = (zoning_at c fabric).active ≡ name
IsSetting c (DefaultZone fabric permit) = permits (zoning_at c fabric).flag ≡ permit

-- the alias or zone of this name is there and has the member; the zone set is there and has the zone
abbrev pub HasItem : FabricZoning → ZoningItem → Type 0
HasItem v (Alias name member) = has v.aliases name member ≡ true
HasItem v (Zone name member) = has v.zones name member ≡ true
HasItem v (Set name zone) = has v.sets name zone ≡ true

-- the row is the host group's
pub record IsHostHead (r : HostGroupRow) (g : HostGroupRows) : Type 0 where
  pub tenant : g.tenant ≡ r.tenant

-- the row is the storage group's
pub record IsStorageHead (r : StorageGroupRow) (g : StorageGroupRows) : Type 0 where
  pub tenant : g.tenant ≡ r.tenant
  pub array : g.array ≡ r.array
  pub exposed : g.exposed ≡ r.exposed

-- the group of this name is there, and the row is its own
abbrev pub IsGroup : MappingRows → GroupRow → Type 0
IsGroup m (group.Host r) = HasAt (map.get m.host_groups) (IsHostHead r) r.name
IsGroup m (group.Storage r) = HasAt (map.get m.groups) (IsStorageHead r) r.name

-- the storage group serves the host group; has the target; maps the volume at the unit
abbrev pub HasPart : StoragePart → StorageGroupRows → Type 0
HasPart (part.HostGroup hosts) g = set.contains g.host_groups hosts ≡ true
HasPart (part.Target target) g = set.contains g.targets target ≡ true
HasPart (part.Unit unit volume) g = map.get g.units unit ≡ Some volume

-- the host group of this name is there and has the host; the storage group is there and has the part
abbrev pub IsPart : MappingRows → PartRow → Type 0
IsPart m (parts.Host name host) = HasAt (map.get m.host_groups) (λ (g : HostGroupRows). set.contains g.hosts host ≡ true) name
IsPart m (parts.Storage name p) = HasAt (map.get m.groups) (HasPart p) name

-- the row stands in the configuration
abbrev pub Stands : ConfigRows → ConfigRow → Type 0
Stands c (config.Setting r) = IsSetting c r
Stands c (config.Zoning r) = HasItem (zoning_at c r.fabric) r.item
Stands c (config.Active r) = set.contains (zoning_at c r.fabric).rows (r.zone, r.member) ≡ true
Stands c (config.Group r) = IsGroup c.mapping r
Stands c (config.Part r) = IsPart c.mapping r

-- ---- an inventory

-- the port of a name of which this is known, without its address
abbrev pub entry_of : ℕ → Known → PortEntry
entry_of name k = record { name = name; node = k.node; at = k.at; holder = k.holder }

-- a port without its address
abbrev pub without_address : Port → PortEntry
without_address p = record { name = p.name; node = p.node; at = p.at; holder = p.holder }

-- the port of a name without its address, if it is known
abbrev pub entry_at : KnownPorts → ℕ → Option PortEntry
entry_at ports name = option_map (entry_of name) (map.get ports name)

-- the address of the port of a name, if it is known and has one
abbrev pub address_at : KnownPorts → ℕ → Option ℕ
address_at ports name = option_and_then (λ (k : Known). k.address) (map.get ports name)

-- the holder that a row tells
abbrev pub holder_of : HolderRow → Holder
holder_of r = record { kind = r.kind; tenant = r.tenant }

-- the volume that a row tells
abbrev pub volume_of : VolumeRow → Volume
volume_of r = record { array = r.array; tenant = r.tenant; bytes = r.bytes }

-- the row stands in the inventory: the port, holder or volume of its name is known, and is this; the
-- port is known, and has this address
abbrev pub IsKnown : InventoryRows → InventoryRow → Type 0
IsKnown v (inventory.Port p) = port_at v.ports p.name ≡ Some p
IsKnown v (inventory.Entry r) = entry_at v.ports r.name ≡ Some r
IsKnown v (inventory.Address r) = address_at v.ports r.port ≡ Some r.address
IsKnown v (inventory.Holder r) = map.get v.holders r.name ≡ Some (holder_of r)
IsKnown v (inventory.Volume r) = map.get v.volumes r.name ≡ Some (volume_of r)
