use Rattle.fab_plans_rows.proofs.KeysNamed.{one_more}
use Rattle.fab_plans_rows.proofs.keys.keys_of.Goals as goal

pub loop-step-preserved : goal.loop-step-preserved
loop-step-preserved g c =
    one_more c.loop-step.keys c.insert.new.self c.args.steps.now c.loop-step.step-index c.step-item.result c.key_of.result c.loop-step-test.true c.step-item.is c.key_of.ensures (c.in_ok-insert.ensures.updates.0) c.loop-step.invariant
