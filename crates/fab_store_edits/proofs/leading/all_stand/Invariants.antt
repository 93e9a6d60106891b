use Rattle.std.proofs.Common.{take, Contains}
use Rattle.fab_store_rows.specs.declared.config_row.ConfigRow.{ConfigRow}
use Rattle.fab_store_rows.specs.Standing.{Stands}
use Rattle.fab_store_edits.proofs.leading.all_stand.Given as goal

abbrev pub invariant-loop-row : goal.invariant-loop-row
invariant-loop-row g l = (r : ConfigRow) → Contains (take l.row-index l.rows) r → Stands l.config r
