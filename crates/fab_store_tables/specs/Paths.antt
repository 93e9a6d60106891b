-- The paths that lines of paths show.
use Rattle.std.specs.Prelude.{◌≡◌, List, Contains}
use Rattle.fab_store_columns.specs.RecordLines.{PathColumns, ShowsPath}
use Rattle.fab_reach_base.specs.declared.path.Path.{Path}
use Rattle.fab_store_rows.specs.declared.record_row.PathRow.{PathRow}

-- the line shows the path, with the host that holds its initiator
abbrev pub ShowsPathOf : PathColumns → Path → Type 0
ShowsPathOf l x = (r : PathRow) × ShowsPath l r × (r.path ≡ x)

-- one of the lines shows the path
abbrev pub IsPathOf : List PathColumns → Path → Type 0
IsPathOf lines x = (l : PathColumns) × Contains lines l × ShowsPathOf l x
