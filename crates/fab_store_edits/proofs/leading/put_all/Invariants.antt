use Rattle.fab_store_rows.specs.Gathering.{Has}
use Rattle.fab_store_rows.specs.Tidy.{IsTidy}
use Rattle.fab_store_edits.proofs.ManyRows.{PutSoFar}
use Rattle.fab_store_edits.proofs.leading.put_all.Given as goal

abbrev pub invariant-loop-row : goal.invariant-loop-row
invariant-loop-row g l = PutSoFar (Has l.going) l.heads l.come l.row-index l.fn.config l.config × (IsTidy l.fn.config → IsTidy l.config)
