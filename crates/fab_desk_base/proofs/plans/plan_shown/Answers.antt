use Rattle.std.proofs.Common.{ℕ, is_some, refl, sym, ap, ◌∙◌, subst}
use Rattle.std.specs.FinMap as map
use Rattle.fab_reach_base.specs.fab_names.Orders.{name_cmp}
use Rattle.fab_world.specs.fab_plans.Plans.{PlanRows}
use Rattle.fab_world.specs.fab_plans_base.Plans.{plan_text}
use Rattle.fab_world.specs.PlanRecords.{PlanRecord}
use Rattle.fab_desk_base.specs.Showing.{AreEntries}
use Rattle.fab_desk_base.proofs.plans.plan_shown.Goals as goal

pub returns : goal.returns
returns g c =
    let kept : PlanRecord = c.in-Some.kept.now in
    let is = c.plan-plan.ensures in
    let approvals = subst (λ (m : map.FinMap name_cmp ℕ). AreEntries (map.entries m) c.in_ok-approvals.approvals.items) (ap (λ (p : PlanRows). p.approvals) is) c.in_ok-approvals.ensures in
    let text = c.in_ok-text.ensures.ok ∙ c.as_str.ensures.printed ∙ ap (λ (p : PlanRows). plan_text p.steps) is in
    (ap is_some (sym c.in-Some.ensures), (kept, sym c.in-Some.ensures, refl, ap (λ (p : PlanRows). p.author) is, c.state.ensures, approvals, text))
