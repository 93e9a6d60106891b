use Rattle.std.proofs.Common.{◌≡◌, ℕ, List, ◌++◌}
use Rattle.fab_zoning.specs.Edits.{IsIn}
use Rattle.fab_reach_base.specs.Adding.{Adds}
use Rattle.fab_reach_base.proofs.Adding.{Before}
use Rattle.std.specs.Ordering.{nat_cmp}
use Rattle.fab_reach_index.specs.Indexes.{zone_cmp}
use Rattle.fab_reach_index.proofs.ZonesPlaced.{Placed}
use Rattle.fab_reach_index.proofs.zoning_index.add_zones.Given as goal

abbrev pub invariant-loop-zone : goal.invariant-loop-zone
invariant-loop-zone g l = (before : List (List ℕ)) × (l.initial.zone-iterator ≡ before ++ l.zone-iterator) × Adds (Before (λ z (e : Placed). e ≡ (l.port, (l.fabric, z))) before) (IsIn nat_cmp zone_cmp l.fn.zones) (IsIn nat_cmp zone_cmp l.zones)
