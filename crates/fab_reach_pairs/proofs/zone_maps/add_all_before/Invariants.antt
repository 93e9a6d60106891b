use Rattle.std.proofs.Common.{◌≡◌, List, ◌++◌}
use Rattle.std.specs.Ordering.{nat_cmp}
use Rattle.fab_zoning.specs.Edits.{IsIn}
use Rattle.fab_reach_base.specs.Adding.{Adds}
use Rattle.fab_reach_base.proofs.Adding.{Before}
use Rattle.fab_reach_index.specs.Indexes.{zone_cmp}
use Rattle.fab_reach_pairs.proofs.ZonesGathered.{OfPort}
use Rattle.fab_reach_pairs.proofs.zone_maps.add_all_before.Given as goal

abbrev pub invariant-loop-port : goal.invariant-loop-port
invariant-loop-port g l = (before : List _) × (l.initial.port-iterator ≡ before ++ l.port-iterator) × Adds (Before (OfPort l.index.zones) before) (IsIn nat_cmp zone_cmp l.fn.zones) (IsIn nat_cmp zone_cmp l.zones)
