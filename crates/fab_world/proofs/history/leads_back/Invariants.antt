use Rattle.std.proofs.Common.{◌↔◌, length, reverse}
use Rattle.std.specs.BTreeMap.{get}
use Rattle.fab_reach_base.specs.fab_names.Orders.{name_cmp}
use Rattle.fab_reach_base.specs.Soundness.{IsSoundAlone}
use Rattle.fab_world.specs.History.{LeadsBack, changes_of}
use Rattle.fab_world.proofs.history.leads_back.Given as goal

abbrev pub invariant-loop-pair : goal.invariant-loop-pair
invariant-loop-pair g l = IsSoundAlone l.draft × (LeadsBack (changes_of (get name_cmp l.plans) (reverse l.order)) l.fn.now ↔ LeadsBack (changes_of (get name_cmp l.plans) (reverse l.left)) l.draft)

abbrev pub decreases-loop-pair : goal.decreases-loop-pair
decreases-loop-pair g l = length l.left
