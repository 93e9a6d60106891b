use Rattle.std.proofs.Common.{◌≡◌, ℕ, List, ◌++◌}
use Rattle.std.specs.List.{AllByRecursion}
use Rattle.fab_mapping_base.specs.Groups.{StorageGroupRows, HasTarget}
use Rattle.fab_mapping.proofs.search.first_with_target.Given as goal

abbrev pub invariant-loop-name : goal.invariant-loop-name
invariant-loop-name g l = (before : List (List ℕ × StorageGroupRows)) × (l.groups.entries ≡ before ++ l.name-iterator) × AllByRecursion (λ (e : List ℕ × StorageGroupRows). ¬ HasTarget l.target e.1) before
