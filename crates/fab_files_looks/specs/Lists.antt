-- Lists of what reads show, as texts.
use Rattle.std.specs.Prelude.{ℕ, List, [], ◌∷◌, ◌++◌, codes}
use Rattle.std.specs.List.{flat_map}
use Rattle.fab_desk_base.specs.declared.reply.Shown.{Shown}
use Rattle.fab_files_base.specs.Columns.{columns_line}
use Rattle.fab_files_looks.specs.Lines.{listed_lines}
use Rattle.fab_files_looks.specs.declared.lists.Table.{Table}
use Rattle.fab_files_looks.specs.declared.lists.Table.TheVariants as table
use Rattle.fab_wire_answers.specs.Bodies.{shown_body}
use Rattle.fab_wire_streams.specs.JsonText.{json_text}
use Rattle.fab_wire_streams.specs.Values.{list_data}

-- an array of the bodies of the reads, and a line feed
abbrev pub rows_json : {A : Type 0} → List (Shown A) → List ℕ
rows_json rows = json_text (list_data shown_body rows) ++ 10 ∷ []

-- the names of the columns
unfoldable pub header_line : Table → List ℕ
header_line table.Holders = columns_line (codes "NAME" ∷ codes "TENANT" ∷ []) (codes "PORTS")
header_line table.Volumes = columns_line (codes "VOLUME" ∷ codes "TENANT" ∷ codes "ARRAY" ∷ []) (codes "BYTES")
header_line table.Ports = columns_line (codes "PORT" ∷ codes "NODE" ∷ []) (codes "FABRIC")
header_line table.HostGroups = columns_line (codes "HOST-GROUP" ∷ codes "TENANT" ∷ []) (codes "HOSTS")
header_line table.Groups = columns_line (codes "GROUP" ∷ codes "TENANT" ∷ codes "ARRAY" ∷ []) (codes "STATE")
header_line table.Plans = columns_line (codes "PLAN" ∷ codes "STATE" ∷ codes "AUTHOR" ∷ []) (codes "APPROVALS")
header_line table.Members = columns_line (codes "FABRIC" ∷ codes "NAME" ∷ []) (codes "MEMBERS")
header_line table.Sets = columns_line (codes "FABRIC" ∷ codes "SET" ∷ []) (codes "ZONES")

-- a line for each row, at a revision
abbrev pub rows_lines : {A : Type 0} → ℕ → List (Shown A) → List ℕ
rows_lines revision rows = flat_map (listed_lines revision) rows

-- the names of the columns, and a line for each row
abbrev pub rows_text : {A : Type 0} → Table → ℕ → List (Shown A) → List ℕ
rows_text t revision rows = header_line t ++ rows_lines revision rows
