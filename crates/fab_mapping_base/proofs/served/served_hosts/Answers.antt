use Rattle.std.proofs.Common.{Bor, ◌≡◌, ◌≤◌, map, length, false, Some, refl, sym, ap, ◌∙◌, subst, arith}
use Rattle.std.specs.BTreeMap.{get}
use Rattle.std.specs.List.{slice_get}
use Rattle.std.specs.Option.{option_map}
use Rattle.std.proofs.lemmas.List.{length-map}
use Rattle.std.proofs.lemmas.Option.{slice_get-map, slice_get_read}
use Rattle.fab_inventory.specs.fab_names.Orders.{name_cmp}
use Rattle.fab_mapping_base.specs.Groups.{StorageGroupRows}
use Rattle.fab_mapping_base.specs.ClashSearch.{lists}
use Rattle.fab_mapping_base.proofs.Serving.{below_start, below_more, below_all}
use Rattle.fab_mapping_base.proofs.served.served_hosts.Goals as goal

abbrev now : Bor StorageGroupRows → StorageGroupRows
now r = r.now

pub loop-place-init : goal.loop-place-init
loop-place-init g c =
    let m = get name_cmp c.args.host_groups.now in
    let gs = map now c.args.groups.now in
    below_start m gs c.new-served.result c.new-served.ensures.empty

pub loop-place-preserved : goal.loop-place-preserved
loop-place-preserved g c =
    let m = get name_cmp c.args.host_groups.now in
    let gs = map now c.args.groups.now in
    let at : slice_get gs c.loop-place.place ≡ Some c.index-groups-place.result.now = slice_get-map now c.args.groups.now c.loop-place.place ∙ ap (option_map now) (slice_get_read c.args.groups.now (length c.args.groups.now) c.loop-place.place c.index-groups-place.result refl (omega arith) c.index-groups-place.is) in
    below_more m gs c.loop-place.place c.index-groups-place.result.now (λ _. false) (lists c.loop-place.served) (lists c.serve_group.new.served) at c.loop-place.invariant c.in_ok-serve_group.ensures

pub returns : goal.returns
returns g c =
    below_all (get name_cmp c.args.host_groups.now) (map now c.args.groups.now) c.loop-place.place (λ _. false) (lists c.loop-place.served) (subst (λ n. n ≤ c.loop-place.place) (sym (length-map c.args.groups.now now)) (omega (arith, c.loop-place-test.false))) c.loop-place.invariant
