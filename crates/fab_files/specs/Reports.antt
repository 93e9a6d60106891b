-- The report on the volumes to which a host has paths.
use Rattle.std.specs.Prelude.{ℕ, ◌≡◌, ◌&&◌, Bool, if◌then◌else◌, nat_lt, List, [], ◌∷◌, ◌++◌, map, codes, decimal, Contains, Result, Ok, Err}
use Rattle.std.specs.List.{flat_map, count_by}
use Rattle.std.specs.Str.{bytes_eq}
use Rattle.fab_reach_base.specs.fab_names.Orders.{name_cmp}
use Rattle.fab_reach_base.specs.fab_names.declared.fabric.Fabric.{Fabric}
use Rattle.fab_reach_base.specs.fab_names.declared.fabric.Fabric.TheVariants.{A, B}
use Rattle.fab_reach_base.specs.fab_inventory.Imports.{same_fabric}
use Rattle.fab_reach_base.specs.fab_lemmas.Lists.{IsListOf}
use Rattle.fab_reach_base.specs.declared.path.Path.{Path}
use Rattle.fab_files_base.specs.Columns.{row_line}
use Rattle.fab_files.specs.declared.reports.ReportFault.{ReportFault}
use Rattle.fab_files.specs.declared.reports.ReportFault.TheVariants.{Memory, Unsent}

-- the names of the columns
unfoldable pub report_header : List ℕ
report_header = row_line (codes "HOST") (codes "VOLUME") (codes "A") (codes "B") (codes "STATE")

-- ---- counts

-- the path leads over the fabric to the volume
abbrev pub leads_over : Fabric → List ℕ → Path → Bool
leads_over f volume p = same_fabric f p.fabric && bytes_eq p.volume volume

-- how many of the paths do
abbrev pub paths_over : Fabric → List ℕ → List Path → ℕ
paths_over f volume paths = count_by (leads_over f volume) paths

-- whether both fabrics have paths
unfoldable pub state_text : ℕ → ℕ → List ℕ
state_text over_a over_b = if nat_lt 0 over_a && nat_lt 0 over_b then codes "BOTH" else codes "ONE"

abbrev pub counts_line : List ℕ → List ℕ → ℕ → ℕ → List ℕ
counts_line host volume over_a over_b = row_line host volume (decimal over_a) (decimal over_b) (state_text over_a over_b)

-- ---- the report

-- the line of a volume
abbrev pub volume_line : List ℕ → List Path → List ℕ → List ℕ
volume_line host paths volume = counts_line host volume (paths_over A volume paths) (paths_over B volume paths)

-- the volumes of the paths, path by path
abbrev pub volumes_of : List Path → List (List ℕ)
volumes_of paths = map (λ p. p.volume) paths

-- the header, and a line for each volume to which a path leads, by name
pub record IsReport (host : List ℕ) (paths : List Path) (text : List ℕ) : Type 0 where
  pub volumes : List (List ℕ)
  pub listed : IsListOf name_cmp (Contains (volumes_of paths)) volumes
  pub lines : text ≡ report_header ++ flat_map (volume_line host paths) volumes

-- a sink took the report, or was cut off at a beginning of it; without memory it took nothing
abbrev pub Reports : {S V : Type 0} → (S → List ℕ → S → Type 0) → (S → List ℕ → S → Type 0) → List ℕ → List Path → S → S → Result V ReportFault → Type 0
Reports took cut host paths old new (Ok u) = (text : List ℕ) × IsReport host paths text × took old text new
Reports took cut host paths old new (Err Memory) = new ≡ old
Reports took cut host paths old new (Err Unsent) = (text : List ℕ) × IsReport host paths text × cut old text new
