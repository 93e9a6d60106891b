use Rattle.std.proofs.Common.{◌≡◌, ℕ, List, ◌++◌}
use Rattle.std.specs.FinMap as map
use Rattle.fab_reach_base.specs.Adding.{Adds}
use Rattle.fab_reach_base.specs.Orders.{Has}
use Rattle.fab_reach_base.proofs.Adding.{Before}
use Rattle.fab_looks.proofs.Gains.{ByUnit}
use Rattle.fab_looks.proofs.offering.add_units.Given as goal

abbrev pub invariant-loop-unit : goal.invariant-loop-unit
invariant-loop-unit g l =
    (listed : List (ℕ × List ℕ)) × (listed ≡ map.entries l.group.units) × (before : List (ℕ × List ℕ)) × (listed ≡ before ++ l.unit-iterator) × Adds (Before (ByUnit l.fabric l.initiator l.target l.volume) before) (Has l.fn.paths) (Has l.paths)
