-- What rows of a configuration use, and the row that tells a use.
use Rattle.std.specs.Prelude.{ℕ, List, Option, None, Some}
use Rattle.fab_reach_base.specs.fab_names.declared.fabric.Fabric.{Fabric}
use Rattle.fab_reach_base.specs.fab_names.declared.member.Member.{Member}
use Rattle.fab_reach_base.specs.fab_names.declared.member.Member.TheVariants as member
use Rattle.fab_store_rows.specs.declared.config_row.ConfigRow.{ConfigRow}
use Rattle.fab_store_rows.specs.declared.config_row.ConfigRow.TheVariants as config
use Rattle.fab_store_rows.specs.declared.config_row.ZoningItem.{ZoningItem}
use Rattle.fab_store_rows.specs.declared.config_row.ZoningItem.TheVariants as item
use Rattle.fab_store_rows.specs.declared.config_row.PartRow.{PartRow}
use Rattle.fab_store_rows.specs.declared.config_row.PartRow.TheVariants as parts
use Rattle.fab_store_rows.specs.declared.config_row.StoragePart.{StoragePart}
use Rattle.fab_store_rows.specs.declared.config_row.StoragePart.TheVariants as part
use Rattle.fab_store_edits.specs.Rows.{zone_row, set_row, host_row, part_row}
use Rattle.fab_store_drafts.specs.declared.uses.Used.{Used}
use Rattle.fab_store_drafts.specs.declared.uses.Used.TheVariants as used

-- what is used, and the name of what uses it
abbrev pub Use : Type 0
Use = Used × List ℕ

-- the row that tells the use: a zone names an alias, a zone set a zone, a storage group a host group, a
-- host group a host
abbrev pub use_row : Used → List ℕ → ConfigRow
use_row (used.Alias f a) z = zone_row f z (member.Alias a)
use_row (used.Zone f z) s = set_row f s z
use_row (used.HostGroup k) n = part_row n (part.HostGroup k)
use_row (used.Host h) k = host_row k h

-- the use that a row tells, if it tells one
abbrev pub member_use : Fabric → List ℕ → Member → Option Use
member_use f z (member.Alias a) = Some (used.Alias f a, z)
member_use f z (member.Port w) = None
member_use f z (member.Node w) = None
member_use f z (member.Place p) = None
member_use f z (member.Address n) = None

abbrev pub item_use : Fabric → ZoningItem → Option Use
item_use f (item.Alias n m) = None
item_use f (item.Zone z m) = member_use f z m
item_use f (item.Set s z) = Some (used.Zone f z, s)

abbrev pub storage_use : List ℕ → StoragePart → Option Use
storage_use n (part.HostGroup k) = Some (used.HostGroup k, n)
storage_use n (part.Target q) = None
storage_use n (part.Unit u x) = None

abbrev pub part_use : PartRow → Option Use
part_use (parts.Host k h) = Some (used.Host h, k)
part_use (parts.Storage n p) = storage_use n p

abbrev pub use_of : ConfigRow → Option Use
use_of (config.Setting r) = None
use_of (config.Zoning r) = item_use r.fabric r.item
use_of (config.Active r) = None
use_of (config.Group r) = None
use_of (config.Part r) = part_use r
