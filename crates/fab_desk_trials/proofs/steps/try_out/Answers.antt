use Rattle.fab_desk_trials.proofs.WithinLimits.{changes_fault, has_effect, paths_fault}
use Rattle.fab_desk_trials.proofs.steps.try_out.Goals as goal

pub returns-in-Err-step-clause-err : goal.returns-in-Err-step-clause-err
returns-in-Err-step-clause-err g c = paths_fault c.args.world.now c.args.caller.now c.args.command.now c.in-Ok.effect c.in-Ok.ensures.ok c.in-Err-step.fault c.in-Err-step.ensures.err

pub returns-in-Ok-check_changes-clause-ok : goal.returns-in-Ok-check_changes-clause-ok
returns-in-Ok-check_changes-clause-ok g c = record {
  effect = has_effect c.args.world.now c.args.caller.now c.args.command.now c.in-Ok.effect c.in-Ok.ensures.ok c.requires.sound c.in-Ok-step.ensures.few c.in-Ok-check_changes.ensures.ok;
  step = c.in-Ok-step.ensures.ok;
}

pub returns-in-Err-check_changes-clause-err : goal.returns-in-Err-check_changes-clause-err
returns-in-Err-check_changes-clause-err g c = changes_fault c.args.world.now c.args.caller.now c.args.command.now c.in-Ok.effect c.in-Ok.ensures.ok c.in-Err-check_changes.fault c.in-Ok-step.ensures.few c.in-Err-check_changes.ensures.err
