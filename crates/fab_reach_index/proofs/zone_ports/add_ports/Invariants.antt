use Rattle.std.proofs.Common.{◌≡◌, ℕ, List, ◌++◌}
use Rattle.std.specs.BTreeSet.{BTreeSet}
use Rattle.fab_zoning.specs.Edits.{IsIn}
use Rattle.fab_reach_base.specs.Adding.{Adds}
use Rattle.std.specs.Ordering.{nat_cmp}
use Rattle.fab_reach_base.proofs.Adding.{Before}
use Rattle.fab_reach_index.specs.Indexes.{Zone, zone_cmp}
use Rattle.fab_reach_index.specs.Inner.Placing.{ByPortZones}
use Rattle.fab_reach_index.proofs.zone_ports.add_ports.Given as goal

abbrev pub invariant-loop-port : goal.invariant-loop-port
invariant-loop-port g l = (before : List (ℕ × BTreeSet Zone)) × (l.zones.entries ≡ before ++ l.port-iterator) × Adds (Before ByPortZones before) (IsIn zone_cmp nat_cmp l.fn.ports) (IsIn zone_cmp nat_cmp l.ports)
