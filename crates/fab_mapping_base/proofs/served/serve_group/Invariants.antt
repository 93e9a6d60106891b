use Rattle.std.proofs.Common.{◌≡◌, ℕ, List, ◌++◌}
use Rattle.std.specs.BTreeMap.{get}
use Rattle.std.specs.FinSet as set
use Rattle.fab_inventory.specs.fab_lemmas.Adding.{Adds}
use Rattle.fab_inventory.proofs.fab_lemmas.Adding.{Before}
use Rattle.fab_inventory.specs.fab_names.Orders.{name_cmp}
use Rattle.fab_mapping_base.specs.ClashSearch.{lists}
use Rattle.fab_mapping_base.proofs.Serving.{ByHosts}
use Rattle.fab_mapping_base.proofs.served.serve_group.Given as goal

abbrev pub invariant-loop-name : goal.invariant-loop-name
invariant-loop-name g l =
    (listed : List (List ℕ)) × (set.from_list listed ≡ l.group.host_groups) × (before : List (List ℕ)) × (listed ≡ before ++ l.name-iterator) × Adds (Before (ByHosts (get name_cmp l.host_groups) l.place) before) (lists l.fn.served) (lists l.served)
