-- The order of the rows of a configuration: by table, and then by the columns of the table.
use Rattle.std.specs.Prelude.{ℕ}
use Rattle.std.specs.declared.cmp.Ordering.{Ordering}
use Rattle.std.specs.declared.cmp.Ordering.TheVariants.{Less, Equal, Greater}
use Rattle.std.specs.Ordering.{nat_cmp, bool_cmp, ordering_then}
use Rattle.std.specs.Option.{option_cmp}
use Rattle.fab_reach_base.specs.fab_names.Orders.{name_cmp, fabric_order, member_order}
use Rattle.fab_store_rows.specs.declared.config_row.SettingRow.{SettingRow}
use Rattle.fab_store_rows.specs.declared.config_row.SettingRow.TheVariants.{ActiveSet, DefaultZone}
use Rattle.fab_store_rows.specs.declared.config_row.ZoningItem.{ZoningItem}
use Rattle.fab_store_rows.specs.declared.config_row.ZoningItem.TheVariants.{Alias, Zone, Set}
use Rattle.fab_store_rows.specs.declared.config_row.ZoningRow.{ZoningRow}
use Rattle.fab_store_rows.specs.declared.config_row.ActiveRow.{ActiveRow}
use Rattle.fab_store_rows.specs.declared.config_row.HostGroupRow.{HostGroupRow}
use Rattle.fab_store_rows.specs.declared.config_row.StorageGroupRow.{StorageGroupRow}
use Rattle.fab_store_rows.specs.declared.config_row.GroupRow.{GroupRow}
use Rattle.fab_store_rows.specs.declared.config_row.GroupRow.TheVariants as group
use Rattle.fab_store_rows.specs.declared.config_row.StoragePart.{StoragePart}
use Rattle.fab_store_rows.specs.declared.config_row.StoragePart.TheVariants.{HostGroup, Target, Unit}
use Rattle.fab_store_rows.specs.declared.config_row.PartRow.{PartRow}
use Rattle.fab_store_rows.specs.declared.config_row.PartRow.TheVariants as parts
use Rattle.fab_store_rows.specs.declared.config_row.ConfigRow.{ConfigRow}
use Rattle.fab_store_rows.specs.declared.config_row.ConfigRow.TheVariants.{Setting, Zoning, Active, Group, Part}
use Rattle.fab_store_rows.specs.contracts.config_row.ConfigRowOrd.TheImpl as rows

-- settings: the active names before the default zones, each by fabric; none before any name, and
-- what denies before what permits
abbrev pub setting_order : SettingRow → SettingRow → Ordering
setting_order (ActiveSet f m) (ActiveSet g n) = ordering_then (fabric_order f g) (option_cmp name_cmp m n)
setting_order (ActiveSet f m) (DefaultZone g q) = Less
setting_order (DefaultZone f p) (ActiveSet g n) = Greater
setting_order (DefaultZone f p) (DefaultZone g q) = ordering_then (fabric_order f g) (bool_cmp p q)

-- items: aliases, zones, zone sets, each by name and then by item
abbrev pub item_order : ZoningItem → ZoningItem → Ordering
item_order (Alias m x) (Alias n y) = ordering_then (name_cmp m n) (member_order x y)
item_order (Alias m x) (Zone n y) = Less
item_order (Alias m x) (Set n z) = Less
item_order (Zone m x) (Alias n y) = Greater
item_order (Zone m x) (Zone n y) = ordering_then (name_cmp m n) (member_order x y)
item_order (Zone m x) (Set n z) = Less
item_order (Set m x) (Alias n y) = Greater
item_order (Set m x) (Zone n y) = Greater
item_order (Set m x) (Set n z) = ordering_then (name_cmp m n) (name_cmp x z)

-- items of all fabrics: by fabric, kind, name, item
abbrev pub zoning_order : ZoningRow → ZoningRow → Ordering
zoning_order a b = ordering_then (fabric_order a.fabric b.fabric) (item_order a.item b.item)

-- active rows: by fabric, zone, member
abbrev pub active_order : ActiveRow → ActiveRow → Ordering
active_order a b = ordering_then (fabric_order a.fabric b.fabric) (ordering_then (name_cmp a.zone b.zone) (member_order a.member b.member))

-- host groups: by name, tenant
abbrev pub host_group_order : HostGroupRow → HostGroupRow → Ordering
host_group_order a b = ordering_then (name_cmp a.name b.name) (name_cmp a.tenant b.tenant)

-- storage groups: by name, tenant, array, exposed
abbrev pub storage_group_order : StorageGroupRow → StorageGroupRow → Ordering
storage_group_order a b =
    ordering_then (name_cmp a.name b.name)
    (ordering_then (name_cmp a.tenant b.tenant) (ordering_then (name_cmp a.array b.array) (bool_cmp a.exposed b.exposed)))

-- groups: host groups before storage groups
abbrev pub group_order : GroupRow → GroupRow → Ordering
group_order (group.Host a) (group.Host b) = host_group_order a b
group_order (group.Host a) (group.Storage b) = Less
group_order (group.Storage a) (group.Host b) = Greater
group_order (group.Storage a) (group.Storage b) = storage_group_order a b

-- parts of a storage group: host groups, targets, units with their volumes
abbrev pub storage_part_order : StoragePart → StoragePart → Ordering
storage_part_order (HostGroup a) (HostGroup b) = name_cmp a b
storage_part_order (HostGroup a) (Target b) = Less
storage_part_order (HostGroup a) (Unit u w) = Less
storage_part_order (Target a) (HostGroup b) = Greater
storage_part_order (Target a) (Target b) = nat_cmp a b
storage_part_order (Target a) (Unit u w) = Less
storage_part_order (Unit t v) (HostGroup b) = Greater
storage_part_order (Unit t v) (Target b) = Greater
storage_part_order (Unit t v) (Unit u w) = ordering_then (nat_cmp t u) (name_cmp v w)

-- parts: those of host groups before those of storage groups, each by name and then by part
abbrev pub part_order : PartRow → PartRow → Ordering
part_order (parts.Host m x) (parts.Host n y) = ordering_then (name_cmp m n) (name_cmp x y)
part_order (parts.Host m x) (parts.Storage n q) = Less
part_order (parts.Storage m p) (parts.Host n y) = Greater
part_order (parts.Storage m p) (parts.Storage n q) = ordering_then (name_cmp m n) (storage_part_order p q)

-- the tables, in their order
abbrev pub place_of_table : ConfigRow → ℕ
place_of_table (Setting r) = 0
place_of_table (Zoning r) = 1
place_of_table (Active r) = 2
place_of_table (Group r) = 3
place_of_table (Part r) = 4

-- within a table, by its columns
abbrev pub order_in_table : ConfigRow → ConfigRow → Ordering
order_in_table (Setting a) (Setting b) = setting_order a b
order_in_table (Zoning a) (Zoning b) = zoning_order a b
order_in_table (Active a) (Active b) = active_order a b
order_in_table (Group a) (Group b) = group_order a b
order_in_table (Part a) (Part b) = part_order a b
order_in_table _ _ = Equal

-- rows of a configuration: by table, then by its columns
abbrev pub row_order : ConfigRow → ConfigRow → Ordering
row_order a b = ordering_then (nat_cmp (place_of_table a) (place_of_table b)) (order_in_table a b)

-- the same order as the code has it, which sets use: a law says that the two are one
abbrev pub row_cmp : ConfigRow → ConfigRow → Ordering
row_cmp = rows.ghosts.cmp
