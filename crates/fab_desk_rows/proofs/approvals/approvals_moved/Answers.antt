use Rattle.std.proofs.Common.{refl, ap}
use Rattle.std.specs.BTreeMap.{get}
use Rattle.std.specs.FinMap as map
use Rattle.fab_reach_base.proofs.fab_lemmas.SeenMaps.{same_look_ups}
use Rattle.fab_reach_base.specs.fab_names.Orders.{name_cmp}
use Rattle.fab_reach_base.proofs.fab_names.OrderLaws.{name_total}
use Rattle.fab_world.specs.fab_plans.Plans.{PlanRows}
use Rattle.fab_desk_rows.proofs.Given.{of_one}
use Rattle.fab_desk_rows.proofs.approvals.approvals_moved.Goals as goal

pub returns : goal.returns
returns g c =
    let n = c.args.name.now in
    let was = c.args.kept.now in
    let given = c.args.approvals.now in
    let is = record was { approvals = map.from_entries given.entries } in
    let before = same_look_ups name_total c.plan-plan.result.now.approvals was.approvals (ap (λ (r : PlanRows). r.approvals) c.plan-plan.ensures) in
    let after = same_look_ups name_total given (map.from_entries given.entries) refl in record {
      removed = of_one n was is (get name_cmp c.plan-plan.result.now.approvals) (get name_cmp given) c.in_ok-removed.removed.items before after c.in_ok-removed.ensures;
      added = of_one n is was (get name_cmp given) (get name_cmp c.plan-plan.result.now.approvals) c.in_ok-added.added.items after before c.in_ok-added.ensures;
    }
