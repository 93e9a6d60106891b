use Rattle.std.proofs.Common.{false, take}
use Rattle.fab_store_edits.specs.Inner.Edits.{is_sole, AreTaken, Of}
use Rattle.fab_store_rows.specs.Tidy.{IsTidy}
use Rattle.fab_store_edits.proofs.leading.take_all.Given as goal

abbrev pub invariant-loop-row : goal.invariant-loop-row
invariant-loop-row g l = AreTaken (Of is_sole false (take l.row-index l.go)) l.fn.config l.config × (IsTidy l.fn.config → IsTidy l.config)
