use Rattle.std.proofs.Common.{sym, subst}
use Rattle.fab_plans.specs.Outcomes.{IsTrialFault}
use Rattle.fab_plans.proofs.Running.{one_done, one_failed}
use Rattle.fab_plans.proofs.outcome.take_steps.Goals as goal

pub returns-in-Err-clause-err : goal.returns-in-Err-clause-err
returns-in-Err-clause-err g c =
    subst (IsTrialFault c.args.inventory.now c.args.steps.now c.args.config.now) (sym c.numbered.ensures)
    (one_failed c.args.inventory.now c.args.steps.now c.loop-place.place c.index-steps-place.result c.loop-place-test.true c.index-steps-place.is c.args.config.now c.loop-place.config c.in-Err.fault c.loop-place.invariant.done c.in-Err.ensures.err)

pub loop-place-preserved : goal.loop-place-preserved
loop-place-preserved g c = record {
  done = one_done c.args.inventory.now c.args.steps.now c.loop-place.place c.index-steps-place.result c.loop-place-test.true c.index-steps-place.is c.args.config.now c.loop-place.config c.take_step.new.config c.loop-place.invariant.done c.in-Ok.ensures.ok;
  sound = λ h. c.in-Ok.ensures.sound (c.loop-place.invariant.sound h);
}
