use Rattle.std.proofs.Common.{ap}
use Rattle.std.specs.BTreeMap.{get, is_at}
use Rattle.std.specs.Map.{lookup}
use Rattle.fab_reach_base.proofs.fab_lemmas.SeenMaps.{same_look_ups}
use Rattle.fab_reach_base.specs.fab_names.Orders.{name_cmp}
use Rattle.fab_reach_base.proofs.fab_names.OrderLaws.{name_total}
use Rattle.fab_world.specs.fab_plans.Plans.{PlanRows}
use Rattle.fab_desk_rows.proofs.Given.{of_new}
use Rattle.fab_desk_rows.proofs.approvals.staged_approvals.Goals as goal

pub returns : goal.returns
returns g c =
    let is = same_look_ups name_total c.plan-plan.result.now.approvals c.args.kept.now.approvals (ap (λ (r : PlanRows). r.approvals) c.plan-plan.ensures) in
    of_new c.args.name.now c.args.kept.now (get name_cmp c.plan-plan.result.now.approvals) (get name_cmp c.new-none.result) c.new.result.items c.in_ok-added.added.items is
    (λ q. ap (λ es. lookup (is_at (name_cmp q)) es) c.new-none.ensures.empty) c.new.ensures.items c.in_ok-added.ensures
