use Rattle.std.proofs.Common.{List, ◌++◌, map, ap, ◌∙◌}
use Rattle.fab_store_rows.specs.declared.record_row.Sign.TheVariants.{Taken, Added}
use Rattle.fab_store_rows.specs.declared.record_row.UndoRow.{UndoRow}
use Rattle.fab_desk_rows.specs.PlanMoves.{undo_row}
use Rattle.fab_desk_rows.proofs.UndoRows.{change_listed}
use Rattle.fab_desk_rows.proofs.undo.rows_of.Goals as goal

pub returns : goal.returns
returns g c =
    let n = c.args.plan.now in
    let taken = c.args.change.now.taken.items in
    let added = c.args.change.now.added.items in
    let first = c.in_ok-push_changed.ensures ∙ ap (λ (rows : List UndoRow). rows ++ map (undo_row n Taken) c.as_slice.result.now) c.new-rows.ensures.items ∙ ap (map (undo_row n Taken)) c.as_slice.ensures.value in
    change_listed n taken added c.push_changed-2.new.rows.items
    (c.in_ok-push_changed-2.ensures ∙ ap (λ (rows : List UndoRow). rows ++ map (undo_row n Added) c.as_slice-2.result.now) first ∙ ap (λ rows. map (undo_row n Taken) taken ++ map (undo_row n Added) rows) c.as_slice-2.ensures.value)
