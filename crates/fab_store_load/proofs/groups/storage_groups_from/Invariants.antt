use Rattle.std.proofs.Common.{ℕ, ◌≡◌, List, ◌++◌}
use Rattle.std.specs.BTreeMap.{get}
use Rattle.fab_names.specs.Orders.{name_cmp}
use Rattle.fab_store_load.specs.declared.kinds.Head.{Head}
use Rattle.fab_store_load.specs.Assembled.{storage_group_at}
use Rattle.fab_store_load.proofs.Assembling.{IsAssembled}
use Rattle.fab_store_load.proofs.groups.storage_groups_from.Given as goal

abbrev pub invariant-loop-name : goal.invariant-loop-name
invariant-loop-name g l = (before : List (List ℕ × Head)) × (l.heads.entries ≡ before ++ l.name-iterator) × IsAssembled name_cmp (storage_group_at l.fn.parts) before (get name_cmp l.groups) (storage_group_at l.left)
