use Rattle.std.proofs.Common.{inl, inr, sym, ap, subst}
use Rattle.fab_store_world.specs.PlanRows.{ChangesInOrder}
use Rattle.fab_desk_commands.specs.Nexts.{turned, Leads}
use Rattle.fab_world.proofs.WholeWorld.{ok_as}
use Rattle.fab_desk_rows.proofs.Quiet.{staged_idle, IsQuiet, withdrawn_quiet}
use Rattle.fab_desk_rows.proofs.UndoRows.{activated, idle_stays}
use Rattle.fab_desk_rows.proofs.undo.turned_undo.Goals as goal

pub returns-in-Activated : goal.returns-in-Activated
returns-in-Activated g c =
    let kept = c.args.kept.now in
    let change = c.in-Activated.change in
    let stands = ap (λ t. (turned t kept).standing) c.in-Activated.is in
    ok_as c.rows_added.result (λ m h. λ before after.
    let sorted = subst ChangesInOrder stands after in
    let rows = h sorted.0 sorted.1 in
    activated c.args.name.now kept (turned c.args.turn.now kept) (staged_idle kept (subst (λ t. Leads t kept) c.in-Activated.is c.requires)) change.taken.items change.added.items m.removed.items m.added.items stands rows.0 rows.1) c.rows_added.ensures

pub returns-in-Withdrawn : goal.returns-in-Withdrawn
returns-in-Withdrawn g c = λ before after.
    let kept = c.args.kept.now in
    let quiet : IsQuiet c.args.turn.now kept = elim c.in-Withdrawn.is [
      | inl e ↦ withdrawn_quiet c.args.turn.now kept e c.requires
      | inr e ↦ let idle = staged_idle kept (subst (λ t. Leads t kept) e.1 c.requires) in subst (λ t. IsQuiet t kept) (sym e.1) (idle, idle)
    ] in
    idle_stays c.args.name.now kept (turned c.args.turn.now kept) c.none_moved.result.removed.items c.none_moved.result.added.items quiet.0 quiet.1 c.none_moved.ensures.0 c.none_moved.ensures.1
