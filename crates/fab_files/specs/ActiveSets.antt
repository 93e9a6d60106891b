-- The text of a fabric's active set.
use Rattle.std.specs.Prelude.{ℕ, List, [], ◌∷◌, ◌++◌, codes, Option, Some, None}
use Rattle.std.specs.List.{flat_map}
use Rattle.fab_reach_base.specs.fab_names.Fabrics.{fabric_text}
use Rattle.fab_reach_base.specs.fab_names.Members.{member_text}
use Rattle.fab_reach_base.specs.fab_names.declared.fabric.Fabric.{Fabric}
use Rattle.fab_reach_base.specs.fab_names.declared.member.Member.{Member}
use Rattle.fab_reach_base.specs.fab_zoning.Zonings.{flag_text}
use Rattle.fab_reach_base.specs.fab_zoning.declared.flag.DefaultFlag.{DefaultFlag}
use Rattle.fab_desk_base.specs.declared.reply.ZoneMembers.{ZoneMembers}
use Rattle.fab_files_base.specs.Lines.{line_of}

-- a word, a space and a text
abbrev pub words_line : List ℕ → List ℕ → List ℕ
words_line word text = line_of 32 word (text ∷ [])

-- the name of the active set, or - where none is active
unfoldable pub set_name : Option (List ℕ) → List ℕ
set_name None = codes "-"
set_name (Some name) = name

-- the fabric, its active set and its default zone
unfoldable pub head_lines : Fabric → Option (List ℕ) → DefaultFlag → List ℕ
head_lines f active flag =
    words_line (codes "fabric") (fabric_text f) ++ (words_line (codes "active") (set_name active) ++ words_line (codes "default") (flag_text flag))

-- a member of a zone
unfoldable pub member_line : List ℕ → Member → List ℕ
member_line zone m = words_line zone (member_text m)

abbrev pub zone_lines : List ℕ → List Member → List ℕ
zone_lines zone members = flat_map (member_line zone) members

abbrev pub zones_lines : {A : Type 0} → List (ZoneMembers A) → List ℕ
zones_lines zones = flat_map (λ z. zone_lines z.name z.members.items) zones

-- the active set: a line for each zone and each of its members, as they are listed
abbrev pub active_lines : {A : Type 0} → Fabric → Option (List ℕ) → DefaultFlag → List (ZoneMembers A) → List ℕ
active_lines f active flag zones = head_lines f active flag ++ zones_lines zones
