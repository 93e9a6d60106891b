use Rattle.std.proofs.Common.{ℕ, ◌≡◌, List, ◌++◌}
use Rattle.std.specs.BTreeMap.{get}
use Rattle.fab_names.specs.Orders.{name_cmp}
use Rattle.fab_store_load.specs.Assembled.{host_group_at}
use Rattle.fab_store_load.proofs.Assembling.{IsAssembled}
use Rattle.fab_store_load.proofs.groups.host_groups_from.Given as goal

abbrev pub invariant-loop-name : goal.invariant-loop-name
invariant-loop-name g l = (before : List (List ℕ × List ℕ)) × (l.tenants.entries ≡ before ++ l.name-iterator) × IsAssembled name_cmp (host_group_at l.fn.hosts) before (get name_cmp l.groups) (host_group_at l.left)
