use Rattle.std.proofs.Common.{◌≡◌, ℕ, List, ◌++◌}
use Rattle.std.specs.FinMap as map
use Rattle.std.specs.List.{AllByRecursion}
use Rattle.fab_mapping_base.specs.ClashSearch.{IsUnlike}
use Rattle.fab_mapping_base.proofs.clash.unlike_unit.Given as goal

abbrev pub invariant-loop-unit : goal.invariant-loop-unit
invariant-loop-unit g l =
    (listed : List (ℕ × List ℕ)) × (listed ≡ map.entries l.a.units) × (before : List (ℕ × List ℕ)) × (listed ≡ before ++ l.unit-iterator) × AllByRecursion (λ e. ¬ IsUnlike l.a l.b e.0) before
