use Rattle.std.proofs.Common.{take, All}
use Rattle.std.specs.Prelude.{IsSome}
use Rattle.std.specs.BTreeMap.{get}
use Rattle.fab_reach_base.specs.fab_names.Orders.{name_cmp}
use Rattle.fab_store_world.proofs.whole.have_plans.Given as goal

abbrev pub invariant-loop-row : goal.invariant-loop-row
invariant-loop-row g l = All (λ r. IsSome (get name_cmp l.plans r.plan)) (take l.row-index l.rows)
