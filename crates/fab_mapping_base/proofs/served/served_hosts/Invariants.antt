use Rattle.std.proofs.Common.{Bor, map, false}
use Rattle.std.specs.BTreeMap.{get}
use Rattle.fab_inventory.specs.fab_lemmas.Adding.{Adds}
use Rattle.fab_inventory.specs.fab_names.Orders.{name_cmp}
use Rattle.fab_mapping_base.specs.Groups.{StorageGroupRows}
use Rattle.fab_mapping_base.specs.ClashSearch.{lists}
use Rattle.fab_mapping_base.proofs.Serving.{Below}
use Rattle.fab_mapping_base.proofs.served.served_hosts.Given as goal

abbrev pub invariant-loop-place : goal.invariant-loop-place
invariant-loop-place g l = Adds (Below (get name_cmp l.host_groups) (map (λ (r : Bor StorageGroupRows). r.now) l.groups) l.place) (λ _. false) (lists l.served)
