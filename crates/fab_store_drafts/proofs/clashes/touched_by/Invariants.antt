use Rattle.std.proofs.Common.{take}
use Rattle.fab_store_drafts.proofs.Gathering.{AreTouched}
use Rattle.fab_store_drafts.proofs.clashes.touched_by.Given as goal

abbrev pub invariant-loop-row : goal.invariant-loop-row
invariant-loop-row g l = AreTouched l.config.mapping (take l.row-index l.rows) l.touched
