use Rattle.std.proofs.Common.{◌≡◌, ℕ, List, [], ◌++◌}
use Rattle.std.specs.FinMap as map
use Rattle.std.specs.BTreeMap.{BTreeMap}
use Rattle.std.specs.BTreeSet.{BTreeSet}
use Rattle.fab_zoning.specs.Edits.{IsIn}
use Rattle.fab_reach_base.specs.Adding.{Adds}
use Rattle.fab_reach_base.proofs.Adding.{Before}
use Rattle.std.specs.Ordering.{nat_cmp}
use Rattle.fab_names.specs.Orders.{name_cmp}
use Rattle.fab_inventory.specs.declared.port.Known.{Known}
use Rattle.fab_reach_base.specs.Views.{seen}
use Rattle.fab_reach_index.specs.Inner.Placing.{ByHolder}
use Rattle.fab_reach_index.proofs.indexing.held_of.Given as goal

abbrev pub invariant-loop-name : goal.invariant-loop-name
invariant-loop-name g l =
    (first : BTreeMap (List ℕ) (BTreeSet ℕ)) × (first.entries ≡ []) × (listed : List (ℕ × Known)) × (listed ≡ map.entries (seen l.view).inventory.ports) × (before : List (ℕ × Known)) × (listed ≡ before ++ l.name-iterator)
    × Adds (Before ByHolder before) (IsIn name_cmp nat_cmp first) (IsIn name_cmp nat_cmp l.held)
