use Rattle.std.proofs.Common.{ap, ◌∙◌}
use Rattle.std.specs.FinMap as map
use Rattle.fab_reach_base.proofs.fab_names.OrderLaws.{name_total, name_exact}
use Rattle.fab_reach_base.proofs.fab_lemmas.SeenMaps.{seen_insert}
use Rattle.fab_world.specs.fab_plans.Plans.{PlanRows}
use Rattle.fab_desk_commands.proofs.turning.approvals_with.Goals as goal

pub returns : goal.returns
returns g c =
    seen_insert name_total name_exact c.in_ok-approvals.approvals c.insert.new.self c.args.caller.now c.args.revision c.in_ok-insert.ensures.updates.0
    ∙ ap (λ m. map.insert m c.args.caller.now c.args.revision) (c.in_ok-approvals.ensures ∙ ap (λ (p : PlanRows). p.approvals) c.plan-plan.ensures)
