use Rattle.std.proofs.Common.{◌≡◌, ℕ, List, ◌++◌}
use Rattle.std.specs.BTreeSet.{contains}
use Rattle.std.specs.FinSet as set
use Rattle.fab_reach_base.specs.fab_lemmas.Adding.{Adds}
use Rattle.fab_reach_base.proofs.fab_lemmas.Adding.{Before}
use Rattle.fab_reach_base.specs.fab_names.Orders.{name_cmp}
use Rattle.fab_store_drafts.specs.Inner.Nearby.{SharesHostOf}
use Rattle.fab_store_drafts.proofs.nearby.add_near.Given as goal

abbrev pub invariant-loop-name : goal.invariant-loop-name
invariant-loop-name g l =
    (listed : List (List ℕ)) × (set.from_list listed ≡ l.group.host_groups) × (before : List (List ℕ)) × (listed ≡ before ++ l.name-iterator)
    × Adds (Before (SharesHostOf l.mapping l.users) before) (contains name_cmp l.fn.near) (contains name_cmp l.near)
