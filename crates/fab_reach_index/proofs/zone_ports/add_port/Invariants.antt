use Rattle.std.proofs.Common.{◌≡◌, ℕ, List, ◌++◌}
use Rattle.fab_zoning.specs.Edits.{IsIn}
use Rattle.fab_reach_base.specs.Adding.{Adds}
use Rattle.fab_reach_base.proofs.Adding.{Before}
use Rattle.std.specs.Ordering.{nat_cmp}
use Rattle.fab_reach_index.specs.Indexes.{Zone, zone_cmp}
use Rattle.fab_reach_index.proofs.zone_ports.add_port.Given as goal

abbrev pub invariant-loop-zone : goal.invariant-loop-zone
invariant-loop-zone g l = (before : List Zone) × (l.initial.zone-iterator ≡ before ++ l.zone-iterator) × Adds (Before (λ (z : Zone) (e : Zone × ℕ). e ≡ (z, l.port)) before) (IsIn zone_cmp nat_cmp l.fn.ports) (IsIn zone_cmp nat_cmp l.ports)
