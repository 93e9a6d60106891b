use Rattle.std.proofs.Common.{◌≡◌, ℕ, List, ◌++◌}
use Rattle.std.specs.Ordering.{nat_cmp}
use Rattle.std.specs.BTreeMap.{get}
use Rattle.fab_inventory.specs.declared.port.Seat.{Seat}
use Rattle.fab_inventory.proofs.Seating.{Seats}
use Rattle.fab_inventory.proofs.restore.seated.Given as goal

abbrev pub invariant-loop-port : goal.invariant-loop-port
invariant-loop-port g l = (before : List (ℕ × Seat)) × (l.seats.entries ≡ before ++ l.port-iterator) × Seats (get nat_cmp l.addresses) before (get nat_cmp l.ports)
