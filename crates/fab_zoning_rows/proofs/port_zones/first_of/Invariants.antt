use Rattle.std.proofs.Common.{◌≡◌, ℕ, List, ◌++◌, false}
use Rattle.std.specs.List.{AllByRecursion}
use Rattle.fab_zoning_rows.specs.PortZones.{in_zones}
use Rattle.fab_zoning_rows.proofs.port_zones.first_of.Given as goal

abbrev pub invariant-loop-zone : goal.invariant-loop-zone
invariant-loop-zone g l = (before : List (List ℕ)) × (l.zones.keys ≡ before ++ l.zone-iterator) × AllByRecursion (λ z. in_zones l.port z ≡ false) before
