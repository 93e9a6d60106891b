-- Who reaches a volume, as texts.
use Rattle.std.specs.Prelude.{ℕ, List, [], ◌∷◌, ◌++◌, codes, decimal}
use Rattle.std.specs.List.{flat_map}
use Rattle.serde_json.specs.Data.{Data}
use Rattle.fab_looks.specs.declared.reaching.Counts.{Counts}
use Rattle.fab_looks_ways.specs.declared.reachers.Reacher.{Reacher}
use Rattle.fab_files_base.specs.Columns.{left, name_width}
use Rattle.fab_wire_answers.specs.Parts.{word}
use Rattle.fab_wire_streams.specs.JsonText.{json_text}
use Rattle.fab_wire_streams.specs.Values.{record_of, list_data, whole}

-- ---- as JSON

-- a host, its tenant and its counts, and the storage groups and logical unit numbers that offer it the volume
abbrev pub reacher_data : {A : Type 0} → Reacher A → Data
reacher_data r =
    record_of (
    (codes "a", whole r.counts.a) ∷ (codes "b", whole r.counts.b) ∷ (codes "groups", list_data word r.groups.items)
    ∷ (codes "host", word r.host) ∷ (codes "tenant", word r.tenant) ∷ (codes "units", list_data whole r.units.items) ∷ [])

-- an array of hosts, and a line feed
abbrev pub reachers_json : {A : Type 0} → List (Reacher A) → List ℕ
reachers_json rs = json_text (list_data reacher_data rs) ++ 10 ∷ []

-- ---- for people

-- a text at the left of its column, and a space
abbrev pub cell : List ℕ → List ℕ
cell text = left name_width text ++ 32 ∷ []

abbrev pub head_text : List ℕ → List ℕ → List ℕ → List ℕ
head_text host tenant unit = cell host ++ (cell tenant ++ cell unit)

abbrev pub counts_text : List ℕ → List ℕ → List ℕ
counts_text a b = cell a ++ cell b

-- the names of the columns
unfoldable pub names_header : List ℕ
names_header = head_text (codes "HOST") (codes "TENANT") (codes "UNIT")

unfoldable pub counts_header : List ℕ
counts_header = counts_text (codes "A") (codes "B")

unfoldable pub groups_header : List ℕ
groups_header = codes "GROUPS\n"

abbrev pub reachers_header : List ℕ
reachers_header = names_header ++ (counts_header ++ groups_header)

-- the logical unit number, if there is one
abbrev pub unit_text : List ℕ → List ℕ
unit_text [] = codes "-"
unit_text (u ∷ []) = decimal u
unit_text (u ∷ v ∷ us) = codes "several"

abbrev pub both_text : Counts → List ℕ
both_text n = counts_text (decimal n.a) (decimal n.b)

unfoldable pub next_text : List ℕ → List ℕ
next_text n = codes "," ++ n

abbrev pub rest_text : List (List ℕ) → List ℕ
rest_text ns = flat_map next_text ns

-- names with commas between
abbrev pub names_text : List (List ℕ) → List ℕ
names_text [] = codes "-"
names_text (n ∷ ns) = n ++ rest_text ns

-- a host with its tenant, its unit, how many paths it has at each fabric, and the storage groups
abbrev pub reacher_line : {A : Type 0} → Reacher A → List ℕ
reacher_line r = head_text r.host r.tenant (unit_text r.units.items) ++ (both_text r.counts ++ (names_text r.groups.items ++ 10 ∷ []))

abbrev pub reacher_lines : {A : Type 0} → List (Reacher A) → List ℕ
reacher_lines rs = flat_map reacher_line rs

-- the names of the columns, and a line for each host
abbrev pub reachers_text : {A : Type 0} → List (Reacher A) → List ℕ
reachers_text rs = reachers_header ++ reacher_lines rs
