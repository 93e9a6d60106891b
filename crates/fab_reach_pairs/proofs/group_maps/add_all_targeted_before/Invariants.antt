use Rattle.std.proofs.Common.{◌≡◌, List, ◌++◌}
use Rattle.std.specs.Ordering.{nat_cmp}
use Rattle.fab_names.specs.Orders.{name_cmp}
use Rattle.fab_zoning.specs.Edits.{IsIn}
use Rattle.fab_reach_base.specs.Adding.{Adds}
use Rattle.fab_reach_base.specs.Views.{seen}
use Rattle.fab_reach_base.proofs.Adding.{Before}
use Rattle.fab_reach_pairs.proofs.GroupsGathered.{OfTargeted}
use Rattle.fab_reach_pairs.proofs.group_maps.add_all_targeted_before.Given as goal

abbrev pub invariant-loop-name : goal.invariant-loop-name
invariant-loop-name g l = (before : List _) × (l.initial.name-iterator ≡ before ++ l.name-iterator) × Adds (Before (OfTargeted (seen l.before)) before) (IsIn nat_cmp name_cmp l.fn.groups) (IsIn nat_cmp name_cmp l.groups)
