use Rattle.std.proofs.Common.{None, Some}
use Rattle.std.specs.FinMap as map
use Rattle.fab_store_world.specs.PlanRows.{IsApprovalOf}
use Rattle.fab_store_world.specs.Keys.{approval_order, undo_order}
use Rattle.fab_desk_rows.specs.PlanMoves.{IsUndoRowOf}
use Rattle.fab_desk_rows.proofs.OnePlan.{all_of_one}
use Rattle.fab_desk_rows.proofs.PlansPut.{absent, more_there, more_beside, new_idle}
use Rattle.fab_desk_rows.proofs.UndoRows.{idle_comes}
use Rattle.fab_desk_rows.proofs.plans.staged_tables.Goals as goal

pub returns : goal.returns
returns g c = λ v more sound next_sound.
    let w = c.args.world.now in
    let n = c.args.name.now in
    let p = c.args.kept.now in
    let none = absent (map.get w.plans n) c.requires in
    let approvals = c.in_ok-approvals.approvals in
    let undo = c.none_moved.result in record {
      plans = c.in_ok-plans.ensures v more sound next_sound;
      approvals = all_of_one approval_order (λ r. r.plan) IsApprovalOf w v n None (Some p) approvals.removed.items approvals.added.items none (more_there w v n p none more) (more_beside w v n p none more) c.in_ok-approvals.ensures;
      undo = all_of_one undo_order (λ r. r.plan) IsUndoRowOf w v n None (Some p) undo.removed.items undo.added.items none (more_there w v n p none more) (more_beside w v n p none more)
          (idle_comes n p undo.removed.items undo.added.items (new_idle w v n p none more sound next_sound) c.none_moved.ensures.0 c.none_moved.ensures.1);
    }
