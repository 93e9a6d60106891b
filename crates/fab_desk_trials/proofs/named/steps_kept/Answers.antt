use Rattle.std.proofs.Common.{◌↔◌, List, Contains, IfOk, sym, ◌∙◌, subst}
use Rattle.fab_world.specs.fab_plans_base.Steps.{PlanStep}
use Rattle.fab_desk_base.specs.Commands.{PlanHasStep}
use Rattle.fab_desk_trials.specs.Named.{AreKept}
use Rattle.fab_desk_trials.proofs.PlansNamed.{none_kept}
use Rattle.fab_desk_trials.proofs.named.steps_kept.Goals as goal

pub returns-in-Some : goal.returns-in-Some
returns-in-Some g c =
    subst (λ o. IfOk c.steps_under.result (λ steps. (s : PlanStep) → Contains steps.items s ↔ PlanHasStep c.args.world.now o s)) (sym (sym c.plan_of.ensures ∙ c.in-Some.is)) c.steps_under.ensures

pub returns-in-None : goal.returns-in-None
returns-in-None g c = subst (λ (steps : List PlanStep). AreKept c.args.world.now c.args.command.now steps) (sym c.new.ensures.items) (none_kept c.args.world.now c.args.command.now (sym c.plan_of.ensures ∙ c.in-None.is))
