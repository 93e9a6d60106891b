use Rattle.std.proofs.Common.{take, All}
use Rattle.std.specs.BTreeMap.{get}
use Rattle.fab_reach_base.specs.fab_lemmas.Firsts.{HasAt}
use Rattle.fab_reach_base.specs.fab_names.Orders.{name_cmp}
use Rattle.fab_world.specs.Plans.{IsActive}
use Rattle.fab_world.proofs.kept.are_active.Given as goal

abbrev pub invariant-loop-name : goal.invariant-loop-name
invariant-loop-name g l = All (HasAt (get name_cmp l.plans) IsActive) (take l.name-index l.order)
