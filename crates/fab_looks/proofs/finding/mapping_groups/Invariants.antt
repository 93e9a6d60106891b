use Rattle.std.proofs.Common.{◌≡◌, ℕ, List, ◌++◌, map}
use Rattle.std.specs.FinMap as map
use Rattle.fab_mapping_base.specs.Groups.{StorageGroupRows}
use Rattle.fab_reach_base.proofs.Adding.{Before}
use Rattle.fab_looks.specs.Inner.Offers.{AreJust}
use Rattle.fab_looks.proofs.Gains.{now, ByEntry}
use Rattle.fab_looks.proofs.finding.mapping_groups.Given as goal

abbrev pub invariant-loop-name : goal.invariant-loop-name
invariant-loop-name g l =
    (listed : List (List ℕ × StorageGroupRows)) × (listed ≡ map.entries l.mapping.groups) × (before : List (List ℕ × StorageGroupRows)) × (listed ≡ before ++ l._name-iterator) × AreJust (Before (ByEntry l.volume) before) (map now l.groups.items)
