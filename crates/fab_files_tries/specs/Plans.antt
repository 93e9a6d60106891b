-- What the activation of a plan would do, as texts.
use Rattle.std.specs.Prelude.{ℕ, List, [], ◌∷◌, ◌++◌, codes, decimal}
use Rattle.std.specs.List.{flat_map}
use Rattle.serde_json.specs.Data.{Data}
use Rattle.fab_files_tries.specs.Names.{listed_text}
use Rattle.fab_files_tries.specs.Rows.{row_text}
use Rattle.fab_looks_tries.specs.declared.paths.PathsMoved.{PathsMoved}
use Rattle.fab_looks_tries.specs.declared.plans.TriedPlan.{TriedPlan}
use Rattle.fab_store_rows.specs.declared.config_row.ConfigRow.{ConfigRow}
use Rattle.fab_wire_answers.specs.Parts.{word}
use Rattle.fab_wire_streams.specs.JsonText.{json_text}
use Rattle.fab_wire_streams.specs.Values.{list_data, record_of, whole}

-- ---- for people

-- the present revision
unfoldable pub revision_line : ℕ → List ℕ
revision_line revision = codes "revision " ++ (decimal revision ++ (10 ∷ []))

-- a sign and a row
abbrev pub row_line : List ℕ → ConfigRow → List ℕ
row_line sign r = sign ++ (row_text r ++ 10 ∷ [])

-- how many paths are lost and gained
unfoldable pub counts_text : {A : Type 0} → PathsMoved A → List ℕ
counts_text m = codes "paths: " ++ (decimal m.lost ++ (codes " lost, " ++ (decimal m.gained ++ codes " gained; hosts left on one fabric:")))

-- the hosts that have no path afterwards
unfoldable pub without_text : {A : Type 0} → PathsMoved A → List ℕ
without_text m = codes "; hosts left without a path:" ++ (listed_text m.hosts.without.items ++ 10 ∷ [])

abbrev pub paths_line : {A : Type 0} → PathsMoved A → List ℕ
paths_line m = counts_text m ++ (listed_text m.hosts.on_one.items ++ without_text m)

-- the revision, the rows that are taken, those that are added, and what becomes of paths
abbrev pub plan_text : {A : Type 0} → TriedPlan A → List ℕ
plan_text t =
    revision_line t.revision ++ (flat_map (row_line (codes "- ")) t.rows.taken.items ++ (flat_map (row_line (codes "+ ")) t.rows.added.items ++ paths_line t.paths))

-- ---- as JSON

-- a row as its text
abbrev pub row_data : ConfigRow → Data
row_data r = word (row_text r)

abbrev pub plan_data : {A : Type 0} → TriedPlan A → Data
plan_data t = record_of (
    (codes "added", list_data row_data t.rows.added.items) ∷ (codes "gained", whole t.paths.gained) ∷ (codes "hosts", list_data word t.paths.hosts.all.items)
    ∷ (codes "lost", whole t.paths.lost) ∷ (codes "one_fabric", list_data word t.paths.hosts.on_one.items) ∷ (codes "revision", whole t.revision)
    ∷ (codes "taken", list_data row_data t.rows.taken.items) ∷ (codes "without", list_data word t.paths.hosts.without.items) ∷ [])

-- the object, and a line feed
abbrev pub plan_json : {A : Type 0} → TriedPlan A → List ℕ
plan_json t = json_text (plan_data t) ++ 10 ∷ []
