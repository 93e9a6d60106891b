use Rattle.fab_store_rows.specs.Tidy.{IsTidy}
use Rattle.fab_store_edits.proofs.ManyRows.{DropSoFar}
use Rattle.fab_store_edits.proofs.leading.drop_all.Given as goal

abbrev pub invariant-loop-row : goal.invariant-loop-row
invariant-loop-row g l = DropSoFar l.go l.row-index l.fn.config l.config × (IsTidy l.fn.config → IsTidy l.config)
