use Rattle.std.proofs.Common.{List, sym, ap, ◌∙◌, subst}
use Rattle.fab_world.specs.fab_plans_base.Plans.{IsWithinLimits}
use Rattle.fab_world.specs.fab_plans_base.Steps.{PlanStep}
use Rattle.fab_world.specs.Soundness.{IsSound}
use Rattle.fab_desk_base.specs.Effects.{with_plan, staged_plan}
use Rattle.fab_desk_trials.specs.Trials.{planned}
use Rattle.fab_desk_machine.proofs.Ends.{staging_of, staged_within}
use Rattle.fab_desk_machine.proofs.finish.planned_next.Goals as goal

pub into_staged-plan-requires : goal.into_staged-plan-requires
into_staged-plan-requires g c = staging_of c.args.world.now c.args.command c.requires.new

pub of-requires : goal.of-requires
of-requires g c =
    let r = c.into_staged-plan.result in
    subst IsWithinLimits (sym c.as_slice.ensures.value) (staged_within c.args.world.now c.args.caller r.0 r.1.items (subst (λ k. IsSound (planned c.args.world.now c.args.caller k)) c.into_staged-plan.ensures c.requires.sound))

pub returns-clause-world : goal.returns-clause-world
returns-clause-world g c =
    let r = c.into_staged-plan.result in
    c.staged_next.ensures.world
    ∙ ap (λ (xs : List PlanStep). with_plan r.0 (staged_plan c.args.caller xs) c.args.world.now) (c.in_ok-text.ensures ∙ c.as_slice.ensures.value)
    ∙ ap (planned c.args.world.now c.args.caller) (sym c.into_staged-plan.ensures)
