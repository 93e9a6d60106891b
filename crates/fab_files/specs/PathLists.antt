-- Paths as comma-separated values (RFC 4180). No field needs quotes.
use Rattle.std.specs.Prelude.{ℕ, List, [], ◌∷◌, ◌++◌, codes, decimal}
use Rattle.std.specs.List.{flat_map}
use Rattle.fab_reach_base.specs.fab_names.Fabrics.{fabric_text}
use Rattle.fab_reach_base.specs.fab_names.WorldWideNames.{wwn_text}
use Rattle.fab_reach_base.specs.declared.path.Path.{Path}
use Rattle.fab_files_base.specs.Lines.{line_of}

-- fields, and commas between them
abbrev pub csv_line : List ℕ → List (List ℕ) → List ℕ
csv_line = line_of 44

-- the names of the fields
unfoldable pub path_header : List ℕ
path_header = csv_line (codes "fabric") (codes "host" ∷ codes "initiator" ∷ codes "target" ∷ codes "volume" ∷ codes "lun" ∷ [])

-- a host's path
unfoldable pub path_line : List ℕ → Path → List ℕ
path_line host p = csv_line (fabric_text p.fabric) (host ∷ wwn_text p.initiator ∷ wwn_text p.target ∷ p.volume ∷ decimal p.unit ∷ [])

-- a host's paths, as they are listed
abbrev pub path_lines : List ℕ → List Path → List ℕ
path_lines host paths = flat_map (path_line host) paths

-- the header, and a line for each path
abbrev pub csv_text : List ℕ → List Path → List ℕ
csv_text host paths = path_header ++ path_lines host paths
