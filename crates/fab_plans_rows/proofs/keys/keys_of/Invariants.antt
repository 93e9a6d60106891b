use Rattle.std.proofs.Common.{take}
use Rattle.fab_plans_rows.specs.Keys.{HasKeys}
use Rattle.fab_plans_rows.proofs.keys.keys_of.Given as goal

abbrev pub invariant-loop-step : goal.invariant-loop-step
invariant-loop-step g l = HasKeys l.keys (take l.step-index l.steps)
