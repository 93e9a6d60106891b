-- Parts of the bodies of answers, as JSON (RFC 8259).
use Rattle.std.specs.Prelude.{ℕ, List, [], ◌∷◌, Option, codes, decimal}
use Rattle.serde_json.specs.Data.{Data, string}
use Rattle.fab_reach_base.specs.fab_names.Fabrics.{fabric_text}
use Rattle.fab_reach_base.specs.fab_names.Members.{member_text}
use Rattle.fab_reach_base.specs.fab_names.Places.{Position}
use Rattle.fab_reach_base.specs.fab_names.declared.fabric.Fabric.{Fabric}
use Rattle.fab_reach_base.specs.fab_names.declared.member.Member.{Member}
use Rattle.fab_reach_base.specs.fab_mapping_base.declared.gone.Gone.{Gone}
use Rattle.fab_reach_base.specs.fab_mapping_base.declared.gone.Gone.TheVariants as gone
use Rattle.fab_world.specs.fab_plans.declared.fault.Item.{Item}
use Rattle.fab_world.specs.fab_plans.declared.fault.Item.TheVariants as item
use Rattle.fab_policy.specs.declared.act.Approval.{Approval}
use Rattle.fab_reach_base.specs.declared.path.Path.{Path}
use Rattle.fab_desk_base.specs.declared.reply.ZoneMembers.{ZoneMembers}
use Rattle.fab_wire_streams.specs.Values.{record_of, list_data, whole, address_data, wwn_data, or_null}

-- a text
abbrev pub word : List ℕ → Data
word text = string text

-- a member of an alias or of a zone, as it is printed
abbrev pub member_data : Member → Data
member_data m = string (member_text m)

-- a path
abbrev pub path_data : Path → Data
path_data p = record_of (
    (codes "fabric", word (fabric_text p.fabric)) ∷ (codes "initiator", wwn_data p.initiator) ∷ (codes "lun", whole p.unit)
    ∷ (codes "target", wwn_data p.target) ∷ (codes "volume", word p.volume) ∷ [])

-- a logical unit number, and the volume there
abbrev pub unit_data : ℕ × List ℕ → Data
unit_data u = record_of ((codes "lun", whole u.0) ∷ (codes "volume", word u.1) ∷ [])

-- an approval of a plan
abbrev pub approval_data : Approval → Data
approval_data a = record_of ((codes "caller", word a.caller) ∷ (codes "revision", whole a.revision) ∷ [])

-- a fabric, a place in it, and the address that a port has there, if one is known
abbrev pub place_data : Option ℕ → Fabric × Position → Data
place_data address at = record_of ((codes "address", or_null address_data address) ∷ (codes "domain", whole at.1.domain) ∷ (codes "fabric", word (fabric_text at.0)) ∷ (codes "port", whole at.1.slot) ∷ [])

-- a zone, with its members
abbrev pub zone_data : {A : Type 0} → ZoneMembers A → Data
zone_data z = record_of ((codes "members", list_data member_data z.members.items) ∷ (codes "name", word z.name) ∷ [])

-- what a refusal is about: a name, a port as it is printed, or the decimal text of a unit
abbrev pub item_data : Item → Data
item_data (item.Name name) = word name
item_data (item.Port port) = wwn_data port
item_data (item.Unit unit) = word (decimal unit)

-- what is gone
abbrev pub gone_item : Gone → Item
gone_item (gone.Host name) = item.Name name
gone_item (gone.Array name) = item.Name name
gone_item (gone.Target port) = item.Port port
gone_item (gone.Volume name) = item.Name name
