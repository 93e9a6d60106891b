-- What an import would do, as texts.
use Rattle.std.specs.Prelude.{ℕ, List, [], ◌∷◌, ◌++◌, length, Bool, true, false, nat_lt, Option, None, Some, codes, decimal}
use Rattle.serde_json.specs.Data.{Data, boolean}
use Rattle.fab_files_tries.specs.Names.{hosts_text, hosts_word}
use Rattle.fab_looks_tries.specs.declared.imports.TriedImport.{TriedImport}
use Rattle.fab_looks_tries.specs.declared.paths.PathsMoved.{PathsMoved}
use Rattle.fab_wire_answers.specs.Parts.{word}
use Rattle.fab_wire_streams.specs.JsonText.{json_text}
use Rattle.fab_wire_streams.specs.Values.{list_data, record_of, whole, wwn_data}

-- more paths are lost than may be; without a number, as many as there are may be
abbrev pub is_over : ℕ → Option ℕ → Bool
is_over lost None = false
is_over lost (Some most) = nat_lt most lost

-- ---- for people

-- how many ports are listed, new, moved and logged out
unfoldable pub ports_line : {A : Type 0} → TriedImport A → List ℕ
ports_line t =
    codes "ports: " ++ (decimal t.listed ++ (codes " listed, " ++ (decimal (length t.ports.new.items) ++ (codes " new, " ++ (decimal (length t.ports.moved.items) ++ (codes " moved, " ++ (decimal (length t.ports.logged_out.items) ++ codes " logged out\n")))))))

-- how many paths are gained and lost, and how many hosts lose some
unfoldable pub counts_text : {A : Type 0} → PathsMoved A → List ℕ
counts_text m =
    codes "paths: " ++ (decimal m.gained ++ (codes " gained, " ++ (decimal m.lost ++ (codes " lost (" ++ (decimal (length m.hosts.all.items) ++ (hosts_word (length m.hosts.all.items) ++ codes "); over A alone or B alone afterwards:"))))))

-- the hosts that have no path afterwards
unfoldable pub without_text : {A : Type 0} → PathsMoved A → List ℕ
without_text m = codes "; without a path afterwards:" ++ (hosts_text m.hosts.without.items ++ 10 ∷ [])

abbrev pub paths_line : {A : Type 0} → PathsMoved A → List ℕ
paths_line m = counts_text m ++ (hosts_text m.hosts.on_one.items ++ without_text m)

-- more paths are lost than may be
unfoldable pub refused_line : ℕ → ℕ → List ℕ
refused_line lost most = codes "refused: " ++ (decimal lost ++ (codes " > " ++ (decimal most ++ 10 ∷ [])))

abbrev pub refused_if : Bool → ℕ → ℕ → List ℕ
refused_if true lost most = refused_line lost most
refused_if false lost most = []

abbrev pub guard_text : ℕ → Option ℕ → List ℕ
guard_text lost None = []
guard_text lost (Some most) = refused_if (nat_lt most lost) lost most

abbrev pub import_text : {A : Type 0} → TriedImport A → Option ℕ → List ℕ
import_text t most = ports_line t ++ (paths_line t.paths ++ guard_text t.paths.lost most)

-- ---- as JSON

abbrev pub import_data : {A : Type 0} → TriedImport A → Bool → Data
import_data t refused = record_of (
    (codes "gained", whole t.paths.gained) ∷ (codes "hosts", list_data word t.paths.hosts.all.items) ∷ (codes "listed", whole t.listed)
    ∷ (codes "logged_out", list_data wwn_data t.ports.logged_out.items) ∷ (codes "lost", whole t.paths.lost) ∷ (codes "moved", list_data wwn_data t.ports.moved.items)
    ∷ (codes "new", list_data wwn_data t.ports.new.items) ∷ (codes "one_fabric", list_data word t.paths.hosts.on_one.items) ∷ (codes "refused", boolean refused)
    ∷ (codes "without", list_data word t.paths.hosts.without.items) ∷ [])

-- the object, and a line feed
abbrev pub import_json : {A : Type 0} → TriedImport A → Option ℕ → List ℕ
import_json t most = json_text (import_data t (is_over t.paths.lost most)) ++ 10 ∷ []
