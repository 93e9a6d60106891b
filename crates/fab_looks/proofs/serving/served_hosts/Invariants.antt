use Rattle.std.proofs.Common.{◌≡◌, ℕ, List, [], ◌++◌}
use Rattle.std.specs.FinMap as map
use Rattle.fab_mapping_base.specs.Groups.{StorageGroupRows}
use Rattle.fab_reach_base.specs.Adding.{Adds}
use Rattle.fab_reach_base.specs.Gathering.{Index, Lists}
use Rattle.fab_reach_base.proofs.Adding.{Before}
use Rattle.fab_looks.specs.Inner.Serving.{ByGroup}
use Rattle.fab_looks.proofs.serving.served_hosts.Given as goal

abbrev pub invariant-loop-name : goal.invariant-loop-name
invariant-loop-name g l =
    (first : Index) × (first.entries ≡ []) × (listed : List (List ℕ × StorageGroupRows)) × (listed ≡ map.entries l.mapping.groups) × (before : List (List ℕ × StorageGroupRows)) × (listed ≡ before ++ l.name-iterator)
    × Adds (Before (ByGroup l.mapping l.volume) before) (Lists first) (Lists l.served)
