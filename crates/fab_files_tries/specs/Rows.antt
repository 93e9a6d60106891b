-- The text of a row of a configuration: the name of its table, and its columns, with a space between.
use Rattle.std.specs.Prelude.{ℕ, List, ◌++◌, Bool, true, false, Option, None, Some, codes, decimal}
use Rattle.fab_files_tries.specs.declared.rows.TextForm.{TextForm}
use Rattle.fab_files_tries.specs.declared.rows.TextForm.TheVariants.{Plain, Quoted}
use Rattle.fab_names.specs.Fabrics.{fabric_text}
use Rattle.fab_names.specs.Members.{member_text}
use Rattle.fab_names.specs.WorldWideNames.{wwn_text}
use Rattle.fab_names.specs.declared.fabric.Fabric.{Fabric}
use Rattle.fab_names.specs.declared.member.Member.{Member}
use Rattle.fab_store_rows.specs.declared.config_row.ActiveRow.{ActiveRow}
use Rattle.fab_store_rows.specs.declared.config_row.ConfigRow.{ConfigRow}
use Rattle.fab_store_rows.specs.declared.config_row.ConfigRow.TheVariants as config
use Rattle.fab_store_rows.specs.declared.config_row.GroupRow.{GroupRow}
use Rattle.fab_store_rows.specs.declared.config_row.GroupRow.TheVariants as group
use Rattle.fab_store_rows.specs.declared.config_row.HostGroupRow.{HostGroupRow}
use Rattle.fab_store_rows.specs.declared.config_row.PartRow.{PartRow}
use Rattle.fab_store_rows.specs.declared.config_row.PartRow.TheVariants as parts
use Rattle.fab_store_rows.specs.declared.config_row.SettingRow.{SettingRow}
use Rattle.fab_store_rows.specs.declared.config_row.SettingRow.TheVariants as setting
use Rattle.fab_store_rows.specs.declared.config_row.StorageGroupRow.{StorageGroupRow}
use Rattle.fab_store_rows.specs.declared.config_row.StoragePart.{StoragePart}
use Rattle.fab_store_rows.specs.declared.config_row.StoragePart.TheVariants as part
use Rattle.fab_store_rows.specs.declared.config_row.ZoningItem.{ZoningItem}
use Rattle.fab_store_rows.specs.declared.config_row.ZoningItem.TheVariants as item
use Rattle.fab_wire_streams.specs.JsonText.{quoted_json}

-- a text as it is, or as a JSON string
abbrev pub in_form : TextForm → List ℕ → List ℕ
in_form Plain text = text
in_form Quoted text = quoted_json text

-- ---- settings of a fabric

abbrev pub name_or_none : Option (List ℕ) → List ℕ
name_or_none None = codes "-"
name_or_none (Some name) = name

abbrev pub permit_word : Bool → List ℕ
permit_word true = codes "permit"
permit_word false = codes "deny"

-- the name of the active zone set, or -
unfoldable pub active_set_text : Fabric → Option (List ℕ) → List ℕ
active_set_text f name = codes "meta active." ++ (fabric_text f ++ (codes " " ++ name_or_none name))

-- what the default zone does
unfoldable pub default_text : Fabric → Bool → List ℕ
default_text f permit = codes "meta default." ++ (fabric_text f ++ (codes " " ++ permit_word permit))

abbrev pub setting_text : SettingRow → List ℕ
setting_text (setting.ActiveSet f name) = active_set_text f name
setting_text (setting.DefaultZone f permit) = default_text f permit

-- ---- zoning

-- a table, a fabric, a kind, a name, and behind a space a word and a text
unfoldable pub worded_row : List ℕ → List ℕ → List ℕ → List ℕ → List ℕ → List ℕ → List ℕ
worded_row table fabric kind name word text = table ++ (fabric ++ (kind ++ (name ++ (codes " " ++ (word ++ text)))))

-- the same with a member
unfoldable pub member_row : List ℕ → List ℕ → List ℕ → List ℕ → Member → List ℕ
member_row table fabric kind name m = table ++ (fabric ++ (kind ++ (name ++ (codes " " ++ member_text m))))

-- a zone of a zone set
unfoldable pub set_text : List ℕ → List ℕ → List ℕ → List ℕ
set_text fabric name zone = codes "zoning " ++ (fabric ++ (codes " set " ++ (name ++ (codes " " ++ zone))))

abbrev pub item_text : Fabric → ZoningItem → List ℕ
item_text f (item.Alias name m) = member_row (codes "zoning ") (fabric_text f) (codes " alias ") name m
item_text f (item.Zone name m) = member_row (codes "zoning ") (fabric_text f) (codes " zone ") name m
item_text f (item.Set name zone) = set_text (fabric_text f) name zone

-- a member of an active zone
abbrev pub active_text : ActiveRow → List ℕ
active_text r = member_row (codes "active ") (fabric_text r.fabric) (codes " ") r.zone r.member

-- ---- groups

unfoldable pub host_group_text : HostGroupRow → List ℕ
host_group_text r = codes "groups host " ++ (r.name ++ (codes " " ++ r.tenant))

abbrev pub exposed_word : Bool → List ℕ
exposed_word true = codes "exposed"
exposed_word false = codes "hidden"

-- a word is last, which says whether it is exposed
unfoldable pub group_text : StorageGroupRow → List ℕ → List ℕ
group_text r exposed = codes "groups storage " ++ (r.name ++ (codes " " ++ (r.tenant ++ (codes " " ++ (r.array ++ (codes " " ++ exposed))))))

-- ---- parts of groups

-- a host of a host group
unfoldable pub host_text : List ℕ → List ℕ → List ℕ
host_text name host = codes "group_parts host " ++ (name ++ (codes " host " ++ host))

-- a storage group, a kind of part, and the part
unfoldable pub part_of_text : List ℕ → List ℕ → List ℕ → List ℕ
part_of_text name kind part = codes "group_parts storage " ++ (name ++ (kind ++ part))

-- a unit, and the volume there
unfoldable pub unit_text : List ℕ → ℕ → List ℕ → List ℕ
unit_text name unit volume = codes "group_parts storage " ++ (name ++ (codes " unit " ++ (decimal unit ++ (codes " " ++ volume))))

abbrev pub part_text : List ℕ → StoragePart → List ℕ
part_text name (part.HostGroup hosts) = part_of_text name (codes " hostgroup ") hosts
part_text name (part.Target target) = part_of_text name (codes " target ") (wwn_text target)
part_text name (part.Unit unit volume) = unit_text name unit volume

-- ---- rows

abbrev pub group_row_text : GroupRow → List ℕ
group_row_text (group.Host r) = host_group_text r
group_row_text (group.Storage r) = group_text r (exposed_word r.exposed)

abbrev pub part_row_text : PartRow → List ℕ
part_row_text (parts.Host name host) = host_text name host
part_row_text (parts.Storage name p) = part_text name p

abbrev pub row_text : ConfigRow → List ℕ
row_text (config.Setting r) = setting_text r
row_text (config.Zoning r) = item_text r.fabric r.item
row_text (config.Active r) = active_text r
row_text (config.Group r) = group_row_text r
row_text (config.Part r) = part_row_text r
