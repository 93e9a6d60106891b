use Rattle.std.proofs.Common.{List, sym, subst}
use Rattle.fab_world.specs.fab_plans_base.Steps.{PlanStep}
use Rattle.fab_desk_trials.specs.Named.{AreKept}
use Rattle.fab_desk_trials.proofs.judge.judged.Goals as goal

pub touched-requires-clause-steps : goal.touched-requires-clause-steps
touched-requires-clause-steps g c = c.steps_of-steps.ensures c.args.world.now (subst (λ (xs : List PlanStep). AreKept c.args.world.now c.args.command.now xs) (sym c.as_slice.ensures.value) c.in_ok-kept.ensures)

pub judged_by-requires-clause-steps : goal.judged_by-requires-clause-steps
judged_by-requires-clause-steps g c = c.steps_of-steps.ensures c.args.world.now (subst (λ (xs : List PlanStep). AreKept c.args.world.now c.args.command.now xs) (sym c.as_slice.ensures.value) c.in_ok-kept.ensures)
