use Rattle.std.proofs.Common.{length}
use Rattle.fab_plans_text.proofs.PlanReadings.{HasRead}
use Rattle.fab_plans_text.proofs.plan.read_lines.Given as goal

abbrev pub invariant-loop-rest : goal.invariant-loop-rest
invariant-loop-rest g l = HasRead l.fn.text l.rest l.steps.items

abbrev pub decreases-loop-rest : goal.decreases-loop-rest
decreases-loop-rest g l = length l.rest
