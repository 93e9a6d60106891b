-- What a row says is said by one row, of each kind: laws of the trait of kinds.
use Rattle.std.proofs.Common.{ℕ, ◌≡◌, List, Option, None, Some, Bool, refl, ap, ◌∙◌}
use Rattle.std.specs.Option.{option_and_then}
use Rattle.fab_names.specs.declared.fabric.Fabric.{Fabric}
use Rattle.fab_names.specs.declared.fabric.Fabric.TheVariants.{A, B}
use Rattle.fab_names.specs.declared.member.Member.{Member}
use Rattle.fab_reach_base.specs.fab_inventory.declared.port.Seat.{Seat}
use Rattle.fab_reach_base.specs.fab_inventory.declared.holder.Holder.{Holder}
use Rattle.fab_reach_base.specs.fab_inventory.declared.holder.Volume.{Volume}
use Rattle.fab_store_rows.specs.declared.config_row.SettingRow.{SettingRow}
use Rattle.fab_store_rows.specs.declared.config_row.SettingRow.TheVariants.{ActiveSet, DefaultZone}
use Rattle.fab_store_rows.specs.declared.config_row.ZoningItem.{ZoningItem}
use Rattle.fab_store_rows.specs.declared.config_row.ZoningItem.TheVariants.{Alias, Zone, Set}
use Rattle.fab_store_rows.specs.declared.config_row.GroupRow.{GroupRow}
use Rattle.fab_store_rows.specs.declared.config_row.GroupRow.TheVariants as group
use Rattle.fab_store_rows.specs.declared.config_row.StoragePart.TheVariants as part
use Rattle.fab_store_rows.specs.declared.config_row.PartRow.{PartRow}
use Rattle.fab_store_rows.specs.declared.config_row.PartRow.TheVariants as parts
use Rattle.fab_store_rows.specs.declared.config_row.ConfigRow.{ConfigRow}
use Rattle.fab_store_rows.specs.declared.config_row.ConfigRow.TheVariants as config
use Rattle.fab_store_rows.specs.declared.inventory_row.PortEntry.{PortEntry}
use Rattle.fab_store_rows.specs.declared.inventory_row.AddressRow.{AddressRow}
use Rattle.fab_store_rows.specs.declared.inventory_row.HolderRow.{HolderRow}
use Rattle.fab_store_rows.specs.declared.inventory_row.VolumeRow.{VolumeRow}
use Rattle.fab_store_load.specs.declared.kinds.Head.{Head}
use Rattle.fab_store_load.specs.Kinds.{Named, port_said, port_row, address_said, address_row, holder_said, holder_row, volume_said, volume_row, setting_in, at_fabric, item_in, item_row, group_in, part_in, active_set, active_set_said, active_set_row, default_zone, default_zone_said, default_zone_row, alias_item, alias_said, alias_row, zone_item, zone_said, zone_row, set_item, set_said, set_row, active_said, active_row, host_group, host_group_said, host_group_row, storage_group, storage_group_said, storage_group_row, host_part, host_said, host_row, served_part, served_said, served_row, target_part, target_said, target_row, unit_part, unit_said, unit_row}

-- the row of the entry that is said
same_entry : {E R : Type 0} (row : E → R) (d e : E) → ◌≡◌ {A = Option E} (Some d) (Some e) → row d ≡ row e
same_entry row d e is = let same : d ≡ e = cc in ap row same

-- no entry is said
no_entry : {E X : Type 0} (e : E) → ◌≡◌ {A = Option E} None (Some e) → X
no_entry e is = absurd cc

-- what a part of a row says
pub by_parts : {R S E : Type 0} (f : R → Option S) (back : S → R) (g : S → Option E) (row : E → S) → ((r : R) (s : S) → f r ≡ Some s → r ≡ back s) → ((s : S) (e : E) → g s ≡ Some e → s ≡ row e)
    → (r : R) (e : E) → option_and_then g (f r) ≡ Some e → r ≡ back (row e)
by_parts {S = S} f back g row one two r e is = by (f r) refl is
  where
    by : (o : Option S) → f r ≡ o → option_and_then g o ≡ Some e → r ≡ back (row e)
    by None at is = no_entry e is
    by (Some s) at is = one r s at ∙ ap back (two s e is)

-- ---- an inventory

pub port_only : (r : PortEntry) (e : ℕ × Seat) → port_said r ≡ Some e → r ≡ port_row e
port_only r e is = same_entry port_row (r.name, record { node = r.node; at = r.at; holder = r.holder }) e is

pub address_only : (r : AddressRow) (e : ℕ × ℕ) → address_said r ≡ Some e → r ≡ address_row e
address_only r e is = same_entry address_row (r.port, r.address) e is

pub holder_only : (r : HolderRow) (e : Named Holder) → holder_said r ≡ Some e → r ≡ holder_row e
holder_only r e is = same_entry holder_row (r.name, record { kind = r.kind; tenant = r.tenant }) e is

pub volume_only : (r : VolumeRow) (e : Named Volume) → volume_said r ≡ Some e → r ≡ volume_row e
volume_only r e is = same_entry volume_row (r.name, record { array = r.array; tenant = r.tenant; bytes = r.bytes }) e is

-- ---- the tables of a configuration

setting_only : (r : ConfigRow) (s : SettingRow) → setting_in r ≡ Some s → r ≡ config.Setting s
setting_only (config.Setting r) s is = same_entry config.Setting r s is
setting_only (config.Zoning r) s is = no_entry s is
setting_only (config.Active r) s is = no_entry s is
setting_only (config.Group r) s is = no_entry s is
setting_only (config.Part r) s is = no_entry s is

at_own : {X : Type 0} (f g : Fabric) (x y : X) → at_fabric f g x ≡ Some y → (f ≡ g) × (x ≡ y)
at_own A A x y is = (refl, cc)
at_own A B x y is = no_entry y is
at_own B A x y is = no_entry y is
at_own B B x y is = (refl, cc)

item_only : (f : Fabric) (r : ConfigRow) (i : ZoningItem) → item_in f r ≡ Some i → r ≡ item_row f i
item_only f (config.Zoning r) i is = let own = at_own r.fabric f r.item i is in λ j. config.Zoning (record { fabric = own.0 j; item = own.1 j })
item_only f (config.Setting r) i is = no_entry i is
item_only f (config.Active r) i is = no_entry i is
item_only f (config.Group r) i is = no_entry i is
item_only f (config.Part r) i is = no_entry i is

group_only : (r : ConfigRow) (s : GroupRow) → group_in r ≡ Some s → r ≡ config.Group s
group_only (config.Group r) s is = same_entry config.Group r s is
group_only (config.Setting r) s is = no_entry s is
group_only (config.Zoning r) s is = no_entry s is
group_only (config.Active r) s is = no_entry s is
group_only (config.Part r) s is = no_entry s is

part_only : (r : ConfigRow) (s : PartRow) → part_in r ≡ Some s → r ≡ config.Part s
part_only (config.Part r) s is = same_entry config.Part r s is
part_only (config.Setting r) s is = no_entry s is
part_only (config.Zoning r) s is = no_entry s is
part_only (config.Active r) s is = no_entry s is
part_only (config.Group r) s is = no_entry s is

-- ---- settings

one_active_set : (s : SettingRow) (e : Fabric × Option (List ℕ)) → active_set s ≡ Some e → s ≡ ActiveSet e.0 e.1
one_active_set (ActiveSet f n) e is = same_entry (λ (d : Fabric × Option (List ℕ)). ActiveSet d.0 d.1) (f, n) e is
one_active_set (DefaultZone f p) e is = no_entry e is

pub active_set_only : (r : ConfigRow) (e : Fabric × Option (List ℕ)) → active_set_said r ≡ Some e → r ≡ active_set_row e
active_set_only = by_parts setting_in config.Setting active_set (λ e. ActiveSet e.0 e.1) setting_only one_active_set

one_default_zone : (s : SettingRow) (e : Fabric × Bool) → default_zone s ≡ Some e → s ≡ DefaultZone e.0 e.1
one_default_zone (ActiveSet f n) e is = no_entry e is
one_default_zone (DefaultZone f p) e is = same_entry (λ (d : Fabric × Bool). DefaultZone d.0 d.1) (f, p) e is

pub default_zone_only : (r : ConfigRow) (e : Fabric × Bool) → default_zone_said r ≡ Some e → r ≡ default_zone_row e
default_zone_only = by_parts setting_in config.Setting default_zone (λ e. DefaultZone e.0 e.1) setting_only one_default_zone

-- ---- aliases, zones, zone sets, active rows

one_alias : (i : ZoningItem) (e : Named Member) → alias_item i ≡ Some e → i ≡ Alias e.0 e.1
one_alias (Alias n m) e is = same_entry (λ (d : Named Member). Alias d.0 d.1) (n, m) e is
one_alias (Zone n m) e is = no_entry e is
one_alias (Set n z) e is = no_entry e is

pub alias_only : (f : Fabric) (r : ConfigRow) (e : Named Member) → alias_said f r ≡ Some e → r ≡ alias_row f e
alias_only f = by_parts (item_in f) (item_row f) alias_item (λ e. Alias e.0 e.1) (item_only f) one_alias

one_zone : (i : ZoningItem) (e : Named Member) → zone_item i ≡ Some e → i ≡ Zone e.0 e.1
one_zone (Alias n m) e is = no_entry e is
one_zone (Zone n m) e is = same_entry (λ (d : Named Member). Zone d.0 d.1) (n, m) e is
one_zone (Set n z) e is = no_entry e is

pub zone_only : (f : Fabric) (r : ConfigRow) (e : Named Member) → zone_said f r ≡ Some e → r ≡ zone_row f e
zone_only f = by_parts (item_in f) (item_row f) zone_item (λ e. Zone e.0 e.1) (item_only f) one_zone

one_set : (i : ZoningItem) (e : Named (List ℕ)) → set_item i ≡ Some e → i ≡ Set e.0 e.1
one_set (Alias n m) e is = no_entry e is
one_set (Zone n m) e is = no_entry e is
one_set (Set n z) e is = same_entry (λ (d : Named (List ℕ)). Set d.0 d.1) (n, z) e is

pub set_only : (f : Fabric) (r : ConfigRow) (e : Named (List ℕ)) → set_said f r ≡ Some e → r ≡ set_row f e
set_only f = by_parts (item_in f) (item_row f) set_item (λ e. Set e.0 e.1) (item_only f) one_set

pub active_only : (f : Fabric) (r : ConfigRow) (e : Member × List ℕ) → active_said f r ≡ Some e → r ≡ active_row f e
active_only f (config.Active r) e is = let own = at_own r.fabric f (r.member, r.zone) e is in λ j. config.Active (record { fabric = own.0 j; zone = (own.1 j).1; member = (own.1 j).0 })
active_only f (config.Setting r) e is = no_entry e is
active_only f (config.Zoning r) e is = no_entry e is
active_only f (config.Group r) e is = no_entry e is
active_only f (config.Part r) e is = no_entry e is

-- what the row of an item says at its fabric
own_item : {X : Type 0} (f : Fabric) (x : X) → at_fabric f f x ≡ Some x
own_item A x = refl
own_item B x = refl

pub alias_says : (f : Fabric) (e : Named Member) → alias_said f (alias_row f e) ≡ Some e
alias_says f e = ap (option_and_then alias_item) (own_item f (Alias e.0 e.1))

pub zone_says : (f : Fabric) (e : Named Member) → zone_said f (zone_row f e) ≡ Some e
zone_says f e = ap (option_and_then zone_item) (own_item f (Zone e.0 e.1))

pub set_says : (f : Fabric) (e : Named (List ℕ)) → set_said f (set_row f e) ≡ Some e
set_says f e = ap (option_and_then set_item) (own_item f (Set e.0 e.1))

pub active_says : (f : Fabric) (e : Member × List ℕ) → active_said f (active_row f e) ≡ Some e
active_says f e = own_item f e

-- ---- groups

one_host_group : (s : GroupRow) (e : Named (List ℕ)) → host_group s ≡ Some e → s ≡ group.Host (record { name = e.0; tenant = e.1 })
one_host_group (group.Host r) e is = same_entry (λ (d : Named (List ℕ)). group.Host (record { name = d.0; tenant = d.1 })) (r.name, r.tenant) e is
one_host_group (group.Storage r) e is = no_entry e is

pub host_group_only : (r : ConfigRow) (e : Named (List ℕ)) → host_group_said r ≡ Some e → r ≡ host_group_row e
host_group_only = by_parts group_in config.Group host_group (λ e. group.Host (record { name = e.0; tenant = e.1 })) group_only one_host_group

one_storage_group : (s : GroupRow) (e : Named Head) → storage_group s ≡ Some e → s ≡ group.Storage (record { name = e.0; tenant = e.1.tenant; array = e.1.array; exposed = e.1.exposed })
one_storage_group (group.Host r) e is = no_entry e is
one_storage_group (group.Storage r) e is =
    same_entry (λ (d : Named Head). group.Storage (record { name = d.0; tenant = d.1.tenant; array = d.1.array; exposed = d.1.exposed })) (r.name, record { tenant = r.tenant; array = r.array; exposed = r.exposed }) e is

pub storage_group_only : (r : ConfigRow) (e : Named Head) → storage_group_said r ≡ Some e → r ≡ storage_group_row e
storage_group_only = by_parts group_in config.Group storage_group (λ e. group.Storage (record { name = e.0; tenant = e.1.tenant; array = e.1.array; exposed = e.1.exposed })) group_only one_storage_group

-- ---- parts of groups

one_host : (s : PartRow) (e : Named (List ℕ)) → host_part s ≡ Some e → s ≡ parts.Host e.0 e.1
one_host (parts.Host n h) e is = same_entry (λ (d : Named (List ℕ)). parts.Host d.0 d.1) (n, h) e is
one_host (parts.Storage n p) e is = no_entry e is

pub host_only : (r : ConfigRow) (e : Named (List ℕ)) → host_said r ≡ Some e → r ≡ host_row e
host_only = by_parts part_in config.Part host_part (λ e. parts.Host e.0 e.1) part_only one_host

one_served : (s : PartRow) (e : Named (List ℕ)) → served_part s ≡ Some e → s ≡ parts.Storage e.0 (part.HostGroup e.1)
one_served (parts.Host n h) e is = no_entry e is
one_served (parts.Storage n (part.HostGroup k)) e is = same_entry (λ (d : Named (List ℕ)). parts.Storage d.0 (part.HostGroup d.1)) (n, k) e is
one_served (parts.Storage n (part.Target w)) e is = no_entry e is
one_served (parts.Storage n (part.Unit u v)) e is = no_entry e is

pub served_only : (r : ConfigRow) (e : Named (List ℕ)) → served_said r ≡ Some e → r ≡ served_row e
served_only = by_parts part_in config.Part served_part (λ e. parts.Storage e.0 (part.HostGroup e.1)) part_only one_served

one_target : (s : PartRow) (e : Named ℕ) → target_part s ≡ Some e → s ≡ parts.Storage e.0 (part.Target e.1)
one_target (parts.Host n h) e is = no_entry e is
one_target (parts.Storage n (part.HostGroup k)) e is = no_entry e is
one_target (parts.Storage n (part.Target w)) e is = same_entry (λ (d : Named ℕ). parts.Storage d.0 (part.Target d.1)) (n, w) e is
one_target (parts.Storage n (part.Unit u v)) e is = no_entry e is

pub target_only : (r : ConfigRow) (e : Named ℕ) → target_said r ≡ Some e → r ≡ target_row e
target_only = by_parts part_in config.Part target_part (λ e. parts.Storage e.0 (part.Target e.1)) part_only one_target

one_unit : (s : PartRow) (e : (List ℕ × ℕ) × List ℕ) → unit_part s ≡ Some e → s ≡ parts.Storage e.0.0 (part.Unit e.0.1 e.1)
one_unit (parts.Host n h) e is = no_entry e is
one_unit (parts.Storage n (part.HostGroup k)) e is = no_entry e is
one_unit (parts.Storage n (part.Target w)) e is = no_entry e is
one_unit (parts.Storage n (part.Unit u v)) e is = same_entry (λ (d : (List ℕ × ℕ) × List ℕ). parts.Storage d.0.0 (part.Unit d.0.1 d.1)) ((n, u), v) e is

pub unit_only : (r : ConfigRow) (e : (List ℕ × ℕ) × List ℕ) → unit_said r ≡ Some e → r ≡ unit_row e
unit_only = by_parts part_in config.Part unit_part (λ e. parts.Storage e.0.0 (part.Unit e.0.1 e.1)) part_only one_unit
