use Rattle.std.proofs.Common.{Some}
use Rattle.fab_store_world.proofs.SoundOrder.{sound_in_order}
use Rattle.fab_store_world.specs.PlanRows.{IsApprovalOf}
use Rattle.fab_desk_commands.specs.Nexts.{turned}
use Rattle.fab_store_world.specs.Keys.{approval_order, undo_order}
use Rattle.fab_desk_rows.specs.PlanMoves.{IsUndoRowOf}
use Rattle.fab_desk_rows.proofs.OnePlan.{all_of_one}
use Rattle.fab_desk_rows.proofs.PlansTurned.{turned_there, turned_beside}
use Rattle.fab_desk_rows.proofs.plans.turned_tables.Goals as goal

pub returns : goal.returns
returns g c = λ v turns sound next_sound.
    let w = c.args.world.now in
    let n = c.args.name.now in
    let t = c.args.turn.now in
    let p = c.plan_at-kept.result.now in
    let is = c.plan_at-kept.ensures.plan in
    let there = turned_there w v n t p is turns.plans in
    let beside = turned_beside w v n t p is turns.plans in
    let approvals = c.in_ok-approvals.approvals in
    let undo = c.in_ok-undo.undo in record {
      plans = c.in_ok-plans.ensures v turns sound next_sound;
      approvals = all_of_one approval_order (λ r. r.plan) IsApprovalOf w v n (Some p) (Some (turned t p)) approvals.removed.items approvals.added.items is there beside c.in_ok-approvals.ensures;
      undo = all_of_one undo_order (λ r. r.plan) IsUndoRowOf w v n (Some p) (Some (turned t p)) undo.removed.items undo.added.items is there beside
          (c.in_ok-undo.ensures (sound_in_order w sound n p is) (sound_in_order v next_sound n (turned t p) there));
    }
