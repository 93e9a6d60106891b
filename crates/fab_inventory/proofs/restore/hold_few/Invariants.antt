use Rattle.std.proofs.Common.{◌≡◌, ℕ, List, ◌++◌}
use Rattle.std.specs.BTreeMap.{get}
use Rattle.fab_names.specs.Orders.{name_cmp}
use Rattle.fab_inventory.specs.declared.port.Known.{Known}
use Rattle.fab_inventory.proofs.Restoring.{Counts, AreFew}
use Rattle.fab_inventory.proofs.restore.hold_few.Given as goal

abbrev pub invariant-loop-port : goal.invariant-loop-port
invariant-loop-port g l = (before : List (ℕ × Known)) × (l.ports.entries ≡ before ++ l._port-iterator) × Counts (get name_cmp l.counts) before × AreFew before
