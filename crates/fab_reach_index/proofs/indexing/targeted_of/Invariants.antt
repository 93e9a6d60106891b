use Rattle.std.proofs.Common.{◌≡◌, ℕ, List, [], ◌++◌}
use Rattle.std.specs.FinMap as map
use Rattle.std.specs.BTreeMap.{BTreeMap}
use Rattle.std.specs.BTreeSet.{BTreeSet}
use Rattle.fab_zoning.specs.Edits.{IsIn}
use Rattle.fab_reach_base.specs.Adding.{Adds}
use Rattle.fab_reach_base.proofs.Adding.{Before}
use Rattle.std.specs.Ordering.{nat_cmp}
use Rattle.fab_names.specs.Orders.{name_cmp}
use Rattle.fab_mapping_base.specs.Groups.{StorageGroupRows}
use Rattle.fab_reach_base.specs.Views.{seen}
use Rattle.fab_reach_index.specs.Inner.Placing.{ByExposed}
use Rattle.fab_reach_index.proofs.indexing.targeted_of.Given as goal

abbrev pub invariant-loop-name : goal.invariant-loop-name
invariant-loop-name g l =
    (first : BTreeMap ℕ (BTreeSet (List ℕ))) × (first.entries ≡ []) × (listed : List (List ℕ × StorageGroupRows)) × (listed ≡ map.entries (seen l.view).config.mapping.groups) × (before : List (List ℕ × StorageGroupRows)) × (listed ≡ before ++ l.name-iterator)
    × Adds (Before ByExposed before) (IsIn nat_cmp name_cmp first) (IsIn nat_cmp name_cmp l.targeted)
