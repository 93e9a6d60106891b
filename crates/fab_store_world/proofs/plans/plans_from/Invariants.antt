use Rattle.std.specs.BTreeMap.{get}
use Rattle.fab_reach_base.specs.fab_names.Orders.{name_cmp}
use Rattle.fab_store_world.proofs.PlansMade.{SoFar}
use Rattle.fab_store_world.proofs.plans.plans_from.Given as goal

abbrev pub invariant-loop-row : goal.invariant-loop-row
invariant-loop-row g l = SoFar l.rows l.parts l.row-index (get name_cmp l.plans)
