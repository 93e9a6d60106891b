use Rattle.std.proofs.Common.{◌≡◌, ℕ, List, ◌++◌}
use Rattle.std.specs.BTreeSet.{contains}
use Rattle.fab_reach_base.specs.fab_lemmas.Adding.{Adds}
use Rattle.fab_reach_base.proofs.fab_lemmas.Adding.{Before}
use Rattle.fab_reach_base.specs.fab_names.Orders.{name_cmp}
use Rattle.fab_store_drafts.proofs.users.add_all.Given as goal

abbrev pub invariant-loop-name : goal.invariant-loop-name
invariant-loop-name g l =
    (before : List (List ℕ)) × (l.more.keys ≡ before ++ l.name-iterator) × Adds (Before (λ (k x : List ℕ). x ≡ k) before) (contains name_cmp l.fn.names) (contains name_cmp l.names)
