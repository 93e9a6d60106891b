use Rattle.std.proofs.Common.{◌≡◌, ℕ, List, ◌++◌}
use Rattle.std.specs.FinMap as map
use Rattle.fab_mapping.specs.fab_mapping_base.fab_inventory.declared.port.Known.{Known}
use Rattle.fab_reach_base.specs.Adding.{Adds}
use Rattle.fab_reach_base.specs.Orders.{Has}
use Rattle.fab_reach_base.specs.Views.{seen}
use Rattle.fab_reach_base.proofs.Adding.{Before}
use Rattle.fab_reach_base.proofs.Gathering.{ByPort}
use Rattle.fab_reach_base.proofs.listing.add_all.Given as goal

abbrev pub invariant-loop-name : goal.invariant-loop-name
invariant-loop-name g l =
    (listed : List (ℕ × Known)) × (listed ≡ map.entries (seen l.view).inventory.ports) × (before : List (ℕ × Known)) × (listed ≡ before ++ l.name-iterator) × Adds (Before (ByPort (seen l.view)) before) (Has l.fn.paths) (Has l.paths)
