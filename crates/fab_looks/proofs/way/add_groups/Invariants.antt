use Rattle.std.proofs.Common.{◌≡◌, ℕ, List, ◌++◌}
use Rattle.std.specs.FinMap as fin
use Rattle.std.specs.Map.{keys_of}
use Rattle.fab_reach_base.specs.fab_mapping_base.Groups.{StorageGroupRows}
use Rattle.fab_looks.specs.Inner.Gathered.{Appends}
use Rattle.fab_looks.specs.Ways.{IsOwnMapping}
use Rattle.fab_looks.proofs.Picks.{ArePicked}
use Rattle.fab_looks.proofs.way.add_groups.Given as goal

abbrev pub invariant-loop-name : goal.invariant-loop-name
invariant-loop-name g l =
    (listed : List (List ℕ × StorageGroupRows)) × (listed ≡ fin.entries l.world.config.mapping.groups) × (before : List (List ℕ × StorageGroupRows)) × (listed ≡ before ++ l.name-iterator) × Appends (ArePicked (IsOwnMapping l.policy l.world l.id l.volume) (keys_of before)) l.fn.queries.items l.queries.items
