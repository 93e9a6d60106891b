use Rattle.std.proofs.Common.{◌≡◌, ℕ, List, ◌++◌, true}
use Rattle.std.specs.FinSet as set
use Rattle.std.specs.List.{AllByRecursion}
use Rattle.fab_mapping_base.specs.Groups.{StorageGroupRows}
use Rattle.fab_mapping.proofs.search.first_serving.Given as goal

abbrev pub invariant-loop-name : goal.invariant-loop-name
invariant-loop-name g l = (before : List (List ℕ × StorageGroupRows)) × (l.groups.entries ≡ before ++ l.name-iterator) × AllByRecursion (λ e. ¬ (set.contains e.1.host_groups l.hosts ≡ true)) before
