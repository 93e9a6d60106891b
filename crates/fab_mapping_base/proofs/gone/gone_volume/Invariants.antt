use Rattle.std.proofs.Common.{◌≡◌, ℕ, List, ◌++◌}
use Rattle.std.specs.FinMap as map
use Rattle.fab_inventory.specs.fab_lemmas.Firsts.{IsFirstOf}
use Rattle.fab_inventory.proofs.fab_lemmas.Adding.{Before}
use Rattle.fab_inventory.specs.fab_names.Orders.{name_cmp}
use Rattle.fab_mapping_base.specs.Fitting.{IsVolumeOn}
use Rattle.fab_mapping_base.proofs.Lacking.{Lacking}
use Rattle.fab_mapping_base.proofs.gone.gone_volume.Given as goal

abbrev pub invariant-loop-unit : goal.invariant-loop-unit
invariant-loop-unit g l =
    (listed : List (ℕ × List ℕ)) × (listed ≡ map.entries l.group.units) × (before : List (ℕ × List ℕ)) × (listed ≡ before ++ l._unit-iterator) × (l.array ≡ l.group.array)
    × IsFirstOf name_cmp (Before (λ (e : ℕ × List ℕ). Lacking (IsVolumeOn l.inventory l.group.array) e.1) before) l.least
