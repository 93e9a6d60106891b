use Rattle.std.proofs.Common.{◌≡◌, ◌++◌, take, map}
use Rattle.fab_desk_rows.specs.PlanMoves.{undo_row}
use Rattle.fab_desk_rows.proofs.undo.push_changed.Given as goal

abbrev pub invariant-loop-row : goal.invariant-loop-row
invariant-loop-row g l = l.rows.items ≡ l.fn.rows.items ++ map (undo_row l.plan l.sign) (take l.row-index l.changed)
