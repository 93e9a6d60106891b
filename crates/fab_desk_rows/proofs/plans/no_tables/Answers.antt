use Rattle.std.proofs.Common.{◌≡◌, ℕ, List, sym, ap, ◌∙◌}
use Rattle.std.specs.FinMap as map
use Rattle.fab_store_world.specs.Keys.{plan_order, approval_order, undo_order}
use Rattle.fab_store_world.specs.Standing.{IsPlanRow, IsApprovalRow, IsUndoRow}
use Rattle.fab_desk_rows.proofs.Listed.{none_moved}
use Rattle.fab_desk_rows.proofs.PlansPut.{rows_stay}
use Rattle.fab_desk_rows.proofs.plans.no_tables.Goals as goal

pub returns : goal.returns
returns g c = λ w v one.
    let same : (n : List ℕ) → map.get v.plans n ≡ map.get w.plans n = λ n. ap (λ m. map.get m n) one.plans in record {
      plans = none_moved plan_order IsPlanRow w v c.none_moved.result.removed.items c.none_moved.result.added.items c.none_moved.ensures.0 c.none_moved.ensures.1 (λ r. (rows_stay w v one r).0) (λ r. (rows_stay w v one r).1);
      approvals = none_moved approval_order IsApprovalRow w v c.none_moved-2.result.removed.items c.none_moved-2.result.added.items c.none_moved-2.ensures.0 c.none_moved-2.ensures.1 (λ r h. (h.0, same r.plan ∙ h.1, h.2)) (λ r h. (h.0, sym (same r.plan) ∙ h.1, h.2));
      undo = none_moved undo_order IsUndoRow w v c.none_moved-3.result.removed.items c.none_moved-3.result.added.items c.none_moved-3.ensures.0 c.none_moved-3.ensures.1 (λ r h. (h.0, same r.plan ∙ h.1, h.2)) (λ r h. (h.0, sym (same r.plan) ∙ h.1, h.2));
    }
