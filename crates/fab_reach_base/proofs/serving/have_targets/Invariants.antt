use Rattle.std.proofs.Common.{◌≡◌, ℕ, List, ◌++◌}
use Rattle.std.specs.FinMap as map
use Rattle.fab_mapping.specs.fab_mapping_base.Groups.{StorageGroupRows}
use Rattle.fab_reach_base.specs.Serving.{AreTargets}
use Rattle.fab_reach_base.proofs.Scanning.{AllSoFar}
use Rattle.fab_reach_base.proofs.serving.have_targets.Given as goal

abbrev pub invariant-loop-name : goal.invariant-loop-name
invariant-loop-name g l =
    (listed : List (List ℕ × StorageGroupRows)) × (listed ≡ map.entries l.mapping.groups) × (before : List (List ℕ × StorageGroupRows)) × (listed ≡ before ++ l._name-iterator)
    × AllSoFar (λ (e : List ℕ × StorageGroupRows). AreTargets l.inventory e.1) before
