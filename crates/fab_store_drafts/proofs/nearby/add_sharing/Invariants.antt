use Rattle.std.proofs.Common.{◌≡◌, ℕ, List, ◌++◌}
use Rattle.std.specs.BTreeSet.{contains}
use Rattle.std.specs.FinSet as set
use Rattle.fab_reach_base.specs.fab_lemmas.Adding.{Adds}
use Rattle.fab_reach_base.proofs.fab_lemmas.Adding.{Before}
use Rattle.fab_reach_base.specs.fab_names.Orders.{name_cmp}
use Rattle.fab_store_drafts.specs.Users.{IsUse}
use Rattle.fab_store_drafts.specs.declared.uses.Used.TheVariants.{Host}
use Rattle.fab_store_drafts.proofs.nearby.add_sharing.Given as goal

abbrev pub invariant-loop-host : goal.invariant-loop-host
invariant-loop-host g l =
    (listed : List (List ℕ)) × (set.from_list listed ≡ l.hosts.hosts) × (before : List (List ℕ)) × (listed ≡ before ++ l.host-iterator)
    × Adds (Before (λ h k. IsUse l.users (Host h, k)) before) (contains name_cmp l.fn.near) (contains name_cmp l.near)
