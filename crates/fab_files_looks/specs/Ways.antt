-- Why a host reaches a volume or does not, as texts.
use Rattle.std.specs.Prelude.{ℕ, List, [], ◌∷◌, ◌++◌, length, Bool, true, false, nat_eq, count_by, codes, decimal}
use Rattle.std.specs.List.{flat_map}
use Rattle.serde_json.specs.Data.{Data, boolean}
use Rattle.fab_names.specs.Fabrics.{fabric_text}
use Rattle.fab_names.specs.declared.fabric.Fabric.TheVariants.{A, B}
use Rattle.fab_names.specs.WorldWideNames.{wwn_text}
use Rattle.fab_inventory.specs.declared.holder.HolderKind.{HolderKind}
use Rattle.fab_inventory.specs.declared.holder.HolderKind.TheVariants as kind
use Rattle.fab_reach_base.specs.declared.path.Path.{Path}
use Rattle.fab_desk_base.specs.declared.reply.Shown.{Shown}
use Rattle.fab_desk_base.specs.declared.reply.Shown.TheVariants as shown
use Rattle.fab_looks.specs.Reachers.{is_in}
use Rattle.fab_looks.specs.declared.explaining.Why.{Why}
use Rattle.fab_looks.specs.declared.explaining.Why.TheVariants as why
use Rattle.fab_looks.specs.declared.link.Link.{Link}
use Rattle.fab_looks_ways.specs.declared.pairing.Pair.{Pair}
use Rattle.fab_files_looks.specs.Lines.{row_line}
use Rattle.fab_files_looks.specs.Pairs.{pair_data, pair_lines}
use Rattle.fab_files_looks.specs.Words.{link_word, missing_words}
use Rattle.fab_wire_answers.specs.Bodies.{shown_body}
use Rattle.fab_wire_answers.specs.Parts.{word, path_data}
use Rattle.fab_wire_streams.specs.JsonText.{json_text}
use Rattle.fab_wire_streams.specs.Values.{record_of, list_data}

-- ---- as JSON

-- a host that reaches a volume, what reads show of the way, and the pairs of ports
abbrev pub reaches_data : {A : Type 0} → List ℕ → List ℕ → List Path → List (Shown A) → List Pair → Data
reaches_data host volume paths found pairs =
    record_of ((codes "found", list_data shown_body found) ∷ (codes "host", word host) ∷ (codes "pairs", list_data pair_data pairs) ∷ (codes "paths", list_data path_data paths) ∷ (codes "reaches", boolean true) ∷ (codes "volume", word volume) ∷ [])

-- one that does not, and the first link that is missing
abbrev pub missing_data : {A : Type 0} → List ℕ → List ℕ → Link → List (Shown A) → List Pair → Data
missing_data host volume link found pairs =
    record_of ((codes "found", list_data shown_body found) ∷ (codes "host", word host) ∷ (codes "missing", word (link_word link)) ∷ (codes "pairs", list_data pair_data pairs) ∷ (codes "reaches", boolean false) ∷ (codes "volume", word volume) ∷ [])

abbrev pub way_data : {A : Type 0} → List ℕ → List ℕ → Why A → List (Shown A) → List Pair → Data
way_data host volume (why.Reaches paths) found pairs = reaches_data host volume paths.items found pairs
way_data host volume (why.Missing link) found pairs = missing_data host volume link found pairs

-- the object, and a line feed
abbrev pub way_json : {A : Type 0} → List ℕ → List ℕ → Why A → List (Shown A) → List Pair → List ℕ
way_json host volume answer found pairs = json_text (way_data host volume answer found pairs) ++ 10 ∷ []

-- ---- for people

abbrev pub label_of_holder : HolderKind → List ℕ
label_of_holder kind.Host = codes "host "
label_of_holder kind.Array = codes "array "

-- the word of what a read shows
abbrev pub label_of : {A : Type 0} → Shown A → List ℕ
label_of (shown.Holder x) = label_of_holder x.kind
label_of (shown.Port name node at address) = codes "port "
label_of (shown.Volume name v) = codes "volume "
label_of (shown.Group x) = codes "group "
label_of (shown.Members f name members) = codes "zone "
label_of other = []

-- and its line
abbrev pub found_line : {A : Type 0} → Shown A → List ℕ
found_line x = label_of x ++ row_line x

abbrev pub found_lines : {A : Type 0} → List (Shown A) → List ℕ
found_lines xs = flat_map found_line xs

-- a path
unfoldable pub path_line : Path → List ℕ
path_line p =
    codes "path " ++ (fabric_text p.fabric ++ (codes " " ++ (wwn_text p.initiator ++ (codes " -> " ++ (wwn_text p.target ++ (codes " unit " ++ (decimal p.unit ++ (10 ∷ []))))))))

abbrev pub path_lines : List Path → List ℕ
path_lines paths = flat_map path_line paths

abbrev pub paths_word_if : Bool → List ℕ
paths_word_if true = codes " path: A "
paths_word_if false = codes " paths: A "

abbrev pub paths_word : ℕ → List ℕ
paths_word count = paths_word_if (nat_eq count 1)

-- how many paths there are, and how many of them at each fabric
unfoldable pub yes_line : List Path → List ℕ
yes_line paths = codes "YES  " ++ (decimal (length paths) ++ (paths_word (length paths) ++ (decimal (count_by (is_in A) paths) ++ (codes ", B " ++ (decimal (count_by (is_in B) paths) ++ (10 ∷ []))))))

abbrev pub yes_text : List Path → List ℕ
yes_text paths = path_lines paths ++ yes_line paths

-- the first link that is missing
unfoldable pub no_line : Link → List ℕ
no_line link = codes "NO  " ++ (missing_words link ++ (10 ∷ []))

abbrev pub answer_text : {A : Type 0} → Why A → List ℕ
answer_text (why.Reaches paths) = yes_text paths.items
answer_text (why.Missing link) = no_line link

-- what reads show of the way, the pairs of ports, the paths, and the answer
abbrev pub way_text : {A : Type 0} → Why A → List (Shown A) → List Pair → List ℕ
way_text answer found pairs = found_lines found ++ (pair_lines pairs ++ answer_text answer)
