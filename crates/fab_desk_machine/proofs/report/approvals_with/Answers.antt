use Rattle.std.proofs.Common.{true, false, sym, ap, ◌∙◌}
use Rattle.fab_world.specs.fab_plans.Plans.{PlanRows}
use Rattle.fab_desk_machine.proofs.Reported.{count_with}
use Rattle.fab_desk_machine.proofs.report.approvals_with.Goals as goal

pub returns-then-contains_key : goal.returns-then-contains_key
returns-then-contains_key g c revision =
    count_with c.plan-plan.result.now.approvals c.args.kept.now.approvals c.args.caller.now revision true c.len-count.result (ap (λ (r : PlanRows). r.approvals) c.plan-plan.ensures) c.len-count.ensures.ordered c.len-count.ensures.len (sym c.if-contains_key.true ∙ c.contains_key.ensures)

pub returns : goal.returns
returns g c revision =
    count_with c.plan-plan.result.now.approvals c.args.kept.now.approvals c.args.caller.now revision false c.len-count.result (ap (λ (r : PlanRows). r.approvals) c.plan-plan.ensures) c.len-count.ensures.ordered c.len-count.ensures.len (sym c.if-contains_key.false ∙ c.contains_key.ensures)
