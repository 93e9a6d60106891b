use Rattle.std.proofs.Common.{◌≡◌, ℕ, List, [], ◌++◌}
use Rattle.std.specs.BTreeSet.{BTreeSet}
use Rattle.std.specs.FinMap as map
use Rattle.fab_reach_base.specs.fab_inventory.declared.port.Known.{Known}
use Rattle.fab_reach_base.specs.Adding.{Adds}
use Rattle.fab_reach_base.proofs.Adding.{Before}
use Rattle.fab_looks.specs.Lists.{HasPort}
use Rattle.fab_looks.proofs.Opens.{ByKey}
use Rattle.fab_looks.proofs.port_listing.list_ports.Given as goal

abbrev pub invariant-loop-port : goal.invariant-loop-port
invariant-loop-port g l =
    (first : BTreeSet ℕ) × (first.keys ≡ []) × (listed : List (ℕ × Known)) × (listed ≡ map.entries l.world.inventory.ports) × (before : List (ℕ × Known)) × (listed ≡ before ++ l.port-iterator) × Adds (Before ByKey before) (HasPort first) (HasPort l.ports)
