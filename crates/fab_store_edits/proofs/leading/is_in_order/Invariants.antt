use Rattle.std.proofs.Common.{◌≤◌}
use Rattle.fab_store_edits.proofs.RowsInOrder.{InOrder}
use Rattle.fab_store_edits.proofs.leading.is_in_order.Given as goal

abbrev pub invariant-loop-i : goal.invariant-loop-i
invariant-loop-i l = (1 ≤ l.i) × InOrder l.rows l.i
