use Rattle.std.proofs.Common.{◌≡◌, ℕ, List, ◌++◌}
use Rattle.std.specs.BTreeSet.{contains}
use Rattle.fab_reach_base.specs.fab_lemmas.Adding.{Adds}
use Rattle.fab_reach_base.proofs.fab_lemmas.Adding.{Before}
use Rattle.fab_reach_base.specs.fab_names.Orders.{name_cmp}
use Rattle.fab_store_drafts.specs.Users.{IsUse}
use Rattle.fab_store_drafts.specs.declared.uses.Used.TheVariants.{HostGroup}
use Rattle.fab_store_drafts.proofs.nearby.add_serving.Given as goal

abbrev pub invariant-loop-hosts : goal.invariant-loop-hosts
invariant-loop-hosts g l =
    (before : List (List ℕ)) × (l.near.keys ≡ before ++ l.hosts-iterator) × Adds (Before (λ (k n : List ℕ). IsUse l.users (HostGroup k, n)) before) (contains name_cmp l.fn.serving) (contains name_cmp l.serving)
