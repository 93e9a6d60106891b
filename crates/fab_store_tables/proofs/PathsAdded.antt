-- Paths that are added, line by line.
use Rattle.std.proofs.Common.{◌≡◌, sym, ap, ◌∙◌}
use Rattle.fab_store_columns.proofs.UniqueConfig.{one_path}
use Rattle.fab_store_columns.specs.RecordLines.{PathColumns, ShowsPath}
use Rattle.fab_reach_base.proofs.Adding.{adds_as}
use Rattle.fab_reach_base.specs.Adding.{Adds}
use Rattle.fab_reach_base.specs.declared.path.Path.{Path}
use Rattle.fab_store_rows.specs.declared.record_row.PathRow.{PathRow}
use Rattle.fab_store_tables.specs.Paths.{ShowsPathOf}

-- the path of a line
pub path_added : (l : PathColumns) (r : PathRow) (old new : Path → Type 0) → ShowsPath l r → Adds (λ x. x ≡ r.path) old new → Adds (ShowsPathOf l) old new
path_added l r old new shows = adds_as (λ x. x ≡ r.path) (ShowsPathOf l) old new (λ x is. (r, shows, sym is)) (λ x s. sym s.2 ∙ ap (λ (y : PathRow). y.path) (one_path l s.0 r s.1 shows))
