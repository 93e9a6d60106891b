use Rattle.std.proofs.Common.{subst}
use Rattle.fab_reach_base.specs.Records.{ConfigRows}
use Rattle.fab_plans.specs.Outcomes.{AllDone}
use Rattle.fab_plans_rows.proofs.outcome.after_steps.Goals as goal

pub returns-in-Ok-take_steps-clause-done : goal.returns-in-Ok-take_steps-clause-done
returns-in-Ok-take_steps-clause-done g c = subst (λ (w : ConfigRows). AllDone c.args.inventory.now c.args.steps.now w c.take_steps.new.config) c.in-Ok.ensures.equal c.in-Ok-take_steps.ensures.ok
