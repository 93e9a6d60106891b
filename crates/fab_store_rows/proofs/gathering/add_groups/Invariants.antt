use Rattle.std.proofs.Common.{◌≡◌, ℕ, List, ◌++◌}
use Rattle.std.specs.FinMap as map
use Rattle.std.specs.Option.{option_copied}
use Rattle.fab_reach_base.specs.fab_mapping_base.Groups.{StorageGroupRows}
use Rattle.fab_reach_base.specs.Adding.{Adds}
use Rattle.fab_reach_base.proofs.Adding.{Before}
use Rattle.fab_store_rows.specs.Gathering.{Has, Lacking, IsStorageGroupRow}
use Rattle.fab_store_rows.proofs.gathering.add_groups.Given as goal

abbrev pub invariant-loop-name : goal.invariant-loop-name
invariant-loop-name g l =
    (listed : List (List ℕ × StorageGroupRows)) × (listed ≡ map.entries l.mapping.groups) × (before : List (List ℕ × StorageGroupRows)) × (listed ≡ before ++ l.name-iterator)
    × Adds (Before (λ e. Lacking (option_copied l.without) (IsStorageGroupRow e.0 e.1)) before) (Has l.fn.rows) (Has l.rows)
