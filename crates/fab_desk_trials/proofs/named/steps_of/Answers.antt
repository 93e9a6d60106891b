use Rattle.fab_desk_trials.proofs.PlansNamed.{kept_steps}
use Rattle.fab_desk_trials.proofs.named.steps_of.Goals as goal

pub returns : goal.returns
returns g c w kept = kept_steps w c.args.command.now c.args.kept.now c.in_default.not-Stage kept
