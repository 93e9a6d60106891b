use Rattle.std.proofs.Common.{◌≡◌, ℕ, List, ◌++◌}
use Rattle.std.specs.FinMap as map
use Rattle.fab_mapping_base.specs.Groups.{StorageGroupRows}
use Rattle.fab_plans_rows.specs.Inner.Beside.{AreClear}
use Rattle.fab_plans_rows.proofs.Clearing.{AllOf}
use Rattle.fab_plans_rows.proofs.beside.is_clear.Given as goal

abbrev pub invariant-loop-other : goal.invariant-loop-other
invariant-loop-other g l =
    (listed : List (List ℕ × StorageGroupRows)) × (listed ≡ map.entries l.mapping.groups) × (before : List (List ℕ × StorageGroupRows)) × (listed ≡ before ++ l.other-iterator)
    × AllOf (λ (e : List ℕ × StorageGroupRows). AreClear l.mapping l.group e.1) before
