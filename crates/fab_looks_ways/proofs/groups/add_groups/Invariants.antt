use Rattle.std.proofs.Common.{◌≡◌, ℕ, List, ◌++◌}
use Rattle.std.specs.FinMap as map
use Rattle.fab_reach_base.specs.fab_mapping_base.Groups.{StorageGroupRows}
use Rattle.fab_reach_base.specs.Adding.{Adds}
use Rattle.fab_reach_base.proofs.Adding.{Before}
use Rattle.fab_desk_base.specs.Tenants.{Has}
use Rattle.fab_looks_ways.specs.Inner.Gathering.{IsOwnEntry}
use Rattle.fab_looks_ways.proofs.groups.add_groups.Given as goal

abbrev pub invariant-loop-name : goal.invariant-loop-name
invariant-loop-name g l =
    (listed : List (List ℕ × StorageGroupRows)) × (listed ≡ map.entries l.world.config.mapping.groups) × (before : List (List ℕ × StorageGroupRows)) × (listed ≡ before ++ l.name-iterator) × Adds (Before (IsOwnEntry l.policy l.world l.id l.volume) before) (Has l.fn.names) (Has l.names)
