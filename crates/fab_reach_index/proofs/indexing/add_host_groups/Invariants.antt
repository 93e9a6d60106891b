use Rattle.std.proofs.Common.{◌≡◌, ℕ, List, ◌++◌}
use Rattle.std.specs.FinSet as set
use Rattle.fab_zoning.specs.Edits.{IsIn}
use Rattle.fab_reach_base.specs.Adding.{Adds}
use Rattle.fab_reach_base.proofs.Adding.{Before}
use Rattle.fab_names.specs.Orders.{name_cmp}
use Rattle.fab_reach_index.proofs.indexing.add_host_groups.Given as goal

abbrev pub invariant-loop-hosts : goal.invariant-loop-hosts
invariant-loop-hosts g l = (listed : List (List ℕ)) × (set.from_list listed ≡ l.group.host_groups) × (before : List (List ℕ)) × (listed ≡ before ++ l.hosts-iterator) × Adds (Before (λ k (e : List ℕ × List ℕ). e ≡ (k, l.name)) before) (IsIn name_cmp name_cmp l.fn.serving) (IsIn name_cmp name_cmp l.serving)
