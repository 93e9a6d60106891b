use Rattle.std.proofs.Common.{Bor, map, List, Contains, ◌↔◌, sym, subst}
use Rattle.std.specs.BTreeMap.{get}
use Rattle.fab_inventory.specs.fab_names.Orders.{name_cmp}
use Rattle.fab_mapping_base.specs.Groups.{StorageGroupRows}
use Rattle.fab_mapping_base.specs.Clashes.{IsExposed}
use Rattle.fab_mapping_base.proofs.ClashSearch.{answer}
use Rattle.fab_mapping_base.proofs.clash.least_clash.Goals as goal

pub first_clash-requires : goal.first_clash-requires
first_clash-requires g c = λ i j known. absurd (c.in_ok-known.ensures i j known)

pub returns : goal.returns
returns g c =
    let gs = map (λ (r : Bor StorageGroupRows). r.now) c.as_slice-groups.result.now in
    let exposed = subst (λ (xs : List (Bor StorageGroupRows)). (x : StorageGroupRows) → Contains (map (λ (r : Bor StorageGroupRows). r.now) xs) x ↔ IsExposed (get name_cmp c.args.groups.now) x) (sym c.as_slice-groups.ensures.value) c.in_ok-exposed.ensures in
    answer (get name_cmp c.args.host_groups.now) (get name_cmp c.args.groups.now) gs c.in_ok-served.served exposed c.in_ok-served.ensures c.first_clash.result c.first_clash.ensures
