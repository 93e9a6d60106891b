-- The kinds of rows of a configuration and of an inventory: what a row says, and the row that says it.
use Rattle.std.specs.Prelude.{ℕ, List, Option, None, Some, Bool}
use Rattle.std.specs.Option.{option_and_then}
use Rattle.fab_names.specs.declared.fabric.Fabric.{Fabric}
use Rattle.fab_names.specs.declared.fabric.Fabric.TheVariants.{A, B}
use Rattle.fab_names.specs.declared.member.Member.{Member}
use Rattle.fab_reach_base.specs.fab_inventory.declared.port.Seat.{Seat}
use Rattle.fab_reach_base.specs.fab_inventory.declared.holder.Holder.{Holder}
use Rattle.fab_reach_base.specs.fab_inventory.declared.holder.Volume.{Volume}
use Rattle.fab_store_rows.specs.declared.config_row.SettingRow.{SettingRow}
use Rattle.fab_store_rows.specs.declared.config_row.SettingRow.TheVariants.{ActiveSet, DefaultZone}
use Rattle.fab_store_rows.specs.declared.config_row.ZoningItem.{ZoningItem}
use Rattle.fab_store_rows.specs.declared.config_row.ZoningItem.TheVariants.{Alias, Zone, Set}
use Rattle.fab_store_rows.specs.declared.config_row.GroupRow.{GroupRow}
use Rattle.fab_store_rows.specs.declared.config_row.GroupRow.TheVariants as group
use Rattle.fab_store_rows.specs.declared.config_row.StoragePart.TheVariants as part
use Rattle.fab_store_rows.specs.declared.config_row.PartRow.{PartRow}
use Rattle.fab_store_rows.specs.declared.config_row.PartRow.TheVariants as parts
use Rattle.fab_store_rows.specs.declared.config_row.ConfigRow.{ConfigRow}
use Rattle.fab_store_rows.specs.declared.config_row.ConfigRow.TheVariants as config
use Rattle.fab_store_rows.specs.declared.inventory_row.PortEntry.{PortEntry}
use Rattle.fab_store_rows.specs.declared.inventory_row.AddressRow.{AddressRow}
use Rattle.fab_store_rows.specs.declared.inventory_row.HolderRow.{HolderRow}
use Rattle.fab_store_rows.specs.declared.inventory_row.VolumeRow.{VolumeRow}
use Rattle.fab_store_rows.specs.Standing.{holder_of, volume_of}
use Rattle.fab_store_load.specs.declared.kinds.Head.{Head}

-- a name, and what stands beside it
abbrev pub Named : Type 0 → Type 0
Named X = List ℕ × X

-- ---- an inventory

-- a port's name, and what its row has beside it
abbrev pub port_said : PortEntry → Option (ℕ × Seat)
port_said r = Some (r.name, record { node = r.node; at = r.at; holder = r.holder })

abbrev pub port_row : ℕ × Seat → PortEntry
port_row e = record { name = e.0; node = e.1.node; at = e.1.at; holder = e.1.holder }

-- a port's name, and its address
abbrev pub address_said : AddressRow → Option (ℕ × ℕ)
address_said r = Some (r.port, r.address)

abbrev pub address_row : ℕ × ℕ → AddressRow
address_row e = record { port = e.0; address = e.1 }

-- a holder's name, and the holder
abbrev pub holder_said : HolderRow → Option (Named Holder)
holder_said r = Some (r.name, holder_of r)

abbrev pub holder_row : Named Holder → HolderRow
holder_row e = record { name = e.0; kind = e.1.kind; tenant = e.1.tenant }

-- a volume's name, and the volume
abbrev pub volume_said : VolumeRow → Option (Named Volume)
volume_said r = Some (r.name, volume_of r)

abbrev pub volume_row : Named Volume → VolumeRow
volume_row e = record { name = e.0; array = e.1.array; tenant = e.1.tenant; bytes = e.1.bytes }

-- ---- the tables of a configuration

abbrev pub setting_in : ConfigRow → Option SettingRow
setting_in (config.Setting r) = Some r
setting_in _ = None

-- what stands at the first fabric, where it is this one
abbrev pub at_fabric : {X : Type 0} → Fabric → Fabric → X → Option X
at_fabric A A x = Some x
at_fabric B B x = Some x
at_fabric _ _ x = None

-- an item at the fabric
abbrev pub item_in : Fabric → ConfigRow → Option ZoningItem
item_in f (config.Zoning r) = at_fabric r.fabric f r.item
item_in f _ = None

abbrev pub item_row : Fabric → ZoningItem → ConfigRow
item_row f i = config.Zoning (record { fabric = f; item = i })

abbrev pub group_in : ConfigRow → Option GroupRow
group_in (config.Group r) = Some r
group_in _ = None

abbrev pub part_in : ConfigRow → Option PartRow
part_in (config.Part r) = Some r
part_in _ = None

-- ---- the kinds of rows of a configuration

-- a fabric, and the name of its active zone set or none
abbrev pub active_set : SettingRow → Option (Fabric × Option (List ℕ))
active_set (ActiveSet f n) = Some (f, n)
active_set (DefaultZone f p) = None

abbrev pub active_set_said : ConfigRow → Option (Fabric × Option (List ℕ))
active_set_said r = option_and_then active_set (setting_in r)

abbrev pub active_set_row : Fabric × Option (List ℕ) → ConfigRow
active_set_row e = config.Setting (ActiveSet e.0 e.1)

-- a fabric, and whether its default zone permits
abbrev pub default_zone : SettingRow → Option (Fabric × Bool)
default_zone (ActiveSet f n) = None
default_zone (DefaultZone f p) = Some (f, p)

abbrev pub default_zone_said : ConfigRow → Option (Fabric × Bool)
default_zone_said r = option_and_then default_zone (setting_in r)

abbrev pub default_zone_row : Fabric × Bool → ConfigRow
default_zone_row e = config.Setting (DefaultZone e.0 e.1)

-- an alias, and a member of it
abbrev pub alias_item : ZoningItem → Option (Named Member)
alias_item (Alias n m) = Some (n, m)
alias_item (Zone n m) = None
alias_item (Set n z) = None

abbrev pub alias_said : Fabric → ConfigRow → Option (Named Member)
alias_said f r = option_and_then alias_item (item_in f r)

abbrev pub alias_row : Fabric → Named Member → ConfigRow
alias_row f e = item_row f (Alias e.0 e.1)

-- a zone, and a member of it
abbrev pub zone_item : ZoningItem → Option (Named Member)
zone_item (Alias n m) = None
zone_item (Zone n m) = Some (n, m)
zone_item (Set n z) = None

abbrev pub zone_said : Fabric → ConfigRow → Option (Named Member)
zone_said f r = option_and_then zone_item (item_in f r)

abbrev pub zone_row : Fabric → Named Member → ConfigRow
zone_row f e = item_row f (Zone e.0 e.1)

-- a zone set, and a zone of it
abbrev pub set_item : ZoningItem → Option (Named (List ℕ))
set_item (Alias n m) = None
set_item (Zone n m) = None
set_item (Set n z) = Some (n, z)

abbrev pub set_said : Fabric → ConfigRow → Option (Named (List ℕ))
set_said f r = option_and_then set_item (item_in f r)

abbrev pub set_row : Fabric → Named (List ℕ) → ConfigRow
set_row f e = item_row f (Set e.0 e.1)

-- an active member, and a zone of it
abbrev pub active_said : Fabric → ConfigRow → Option (Member × List ℕ)
active_said f (config.Active r) = at_fabric r.fabric f (r.member, r.zone)
active_said f _ = None

abbrev pub active_row : Fabric → Member × List ℕ → ConfigRow
active_row f e = config.Active (record { fabric = f; zone = e.1; member = e.0 })

-- a host group, and whose it is
abbrev pub host_group : GroupRow → Option (Named (List ℕ))
host_group (group.Host r) = Some (r.name, r.tenant)
host_group (group.Storage r) = None

abbrev pub host_group_said : ConfigRow → Option (Named (List ℕ))
host_group_said r = option_and_then host_group (group_in r)

abbrev pub host_group_row : Named (List ℕ) → ConfigRow
host_group_row e = config.Group (group.Host (record { name = e.0; tenant = e.1 }))

-- a storage group, and what its row has beside its name
abbrev pub storage_group : GroupRow → Option (Named Head)
storage_group (group.Host r) = None
storage_group (group.Storage r) = Some (r.name, record { tenant = r.tenant; array = r.array; exposed = r.exposed })

abbrev pub storage_group_said : ConfigRow → Option (Named Head)
storage_group_said r = option_and_then storage_group (group_in r)

abbrev pub storage_group_row : Named Head → ConfigRow
storage_group_row e = config.Group (group.Storage (record { name = e.0; tenant = e.1.tenant; array = e.1.array; exposed = e.1.exposed }))

-- a host group, and a host of it
abbrev pub host_part : PartRow → Option (Named (List ℕ))
host_part (parts.Host n h) = Some (n, h)
host_part (parts.Storage n p) = None

abbrev pub host_said : ConfigRow → Option (Named (List ℕ))
host_said r = option_and_then host_part (part_in r)

abbrev pub host_row : Named (List ℕ) → ConfigRow
host_row e = config.Part (parts.Host e.0 e.1)

-- a storage group, and a host group that it serves
abbrev pub served_part : PartRow → Option (Named (List ℕ))
served_part (parts.Storage n (part.HostGroup k)) = Some (n, k)
served_part _ = None

abbrev pub served_said : ConfigRow → Option (Named (List ℕ))
served_said r = option_and_then served_part (part_in r)

abbrev pub served_row : Named (List ℕ) → ConfigRow
served_row e = config.Part (parts.Storage e.0 (part.HostGroup e.1))

-- a storage group, and a target of it
abbrev pub target_part : PartRow → Option (Named ℕ)
target_part (parts.Storage n (part.Target w)) = Some (n, w)
target_part _ = None

abbrev pub target_said : ConfigRow → Option (Named ℕ)
target_said r = option_and_then target_part (part_in r)

abbrev pub target_row : Named ℕ → ConfigRow
target_row e = config.Part (parts.Storage e.0 (part.Target e.1))

-- a storage group with a logical unit number of it, and the volume there
abbrev pub unit_part : PartRow → Option ((List ℕ × ℕ) × List ℕ)
unit_part (parts.Storage n (part.Unit u v)) = Some ((n, u), v)
unit_part _ = None

abbrev pub unit_said : ConfigRow → Option ((List ℕ × ℕ) × List ℕ)
unit_said r = option_and_then unit_part (part_in r)

abbrev pub unit_row : (List ℕ × ℕ) × List ℕ → ConfigRow
unit_row e = config.Part (parts.Storage e.0.0 (part.Unit e.0.1 e.1))
