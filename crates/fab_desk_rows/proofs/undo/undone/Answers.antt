use Rattle.std.proofs.Common.{subst}
use Rattle.fab_store_world.specs.PlanRows.{ChangesInOrder}
use Rattle.fab_world.specs.PlanRecords.{rolled_back}
use Rattle.fab_world.specs.Plans.{change_in}
use Rattle.fab_world.proofs.WholeWorld.{ok_as}
use Rattle.fab_desk_rows.proofs.UndoRows.{undo_is, no_undo, deactivated, idle_stays}
use Rattle.fab_desk_rows.proofs.undo.undone.Goals as goal

pub returns-in-Some : goal.returns-in-Some
returns-in-Some g c =
    let kept = c.args.kept.now in
    let change = c.in-Some.change.now in
    ok_as c.rows_removed.result (λ m h. λ order.
    let stands = undo_is kept.standing (change_in change) c.in-Some.ensures in
    let sorted = subst ChangesInOrder stands order in
    let rows = h sorted.0 sorted.1 in
    deactivated c.args.plan.now (record kept { standing = rolled_back }) kept (λ e. absurd cc) change.taken.items change.added.items m.removed.items m.added.items stands rows.0 rows.1) c.rows_removed.ensures

pub returns-in-None : goal.returns-in-None
returns-in-None g c = λ order.
    let kept = c.args.kept.now in
    idle_stays c.args.plan.now kept (record kept { standing = rolled_back }) c.none_moved.result.removed.items c.none_moved.result.added.items (no_undo kept.standing c.in-None.ensures) (λ e. absurd cc) c.none_moved.ensures.0 c.none_moved.ensures.1
