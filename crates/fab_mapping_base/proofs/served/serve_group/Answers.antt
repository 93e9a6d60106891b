use Rattle.std.proofs.Common.{◌∷◌, [], ◌++◌, sym, ap, ◌∙◌}
use Rattle.std.specs.BTreeMap.{get}
use Rattle.std.specs.FinSet as set
use Rattle.std.specs.Map.Iter.{deref}
use Rattle.std.proofs.lemmas.Map.Iter.{rest_more, rest_all}
use Rattle.fab_inventory.proofs.fab_lemmas.Adding.{before_none, before_more, adds_none}
use Rattle.fab_inventory.proofs.fab_lemmas.Walks.{walked, walk_end}
use Rattle.fab_inventory.specs.fab_names.Orders.{name_cmp}
use Rattle.fab_mapping_base.specs.ClashSearch.{lists}
use Rattle.fab_mapping_base.proofs.Serving.{ByHosts, by_hosts, no_hosts, group_served}
use Rattle.fab_mapping_base.proofs.served.serve_group.Goals as goal

pub loop-name-init : goal.loop-name-init
loop-name-init g c = (c.host_groups-name-items.result, c.host_groups-name-items.ensures.host_groups, [], sym c.into_iter-name-iterator.ensures.into_iter_gives, before_none (ByHosts (get name_cmp c.args.host_groups.now) c.args.place) (lists c.args.served.now))

pub loop-name-preserved-in-Continue-1 : goal.loop-name-preserved-in-Continue-1
loop-name-preserved-in-Continue-1 g c =
    let i = c.loop-name.invariant in
    let m = get name_cmp c.args.host_groups.now in (
      i.0,
      i.1,
      i.2 ++ c.in-Some.name.now ∷ [],
      walked i.0 i.2 c.loop-name.name-iterator c.next.new.self c.in-Some.name.now i.3 (rest_more deref c.loop-name.name-iterator c.next.new.self c.next.result c.in-Some.name c.in-Some.is c.next.ensures.steps),
      before_more (ByHosts m c.args.place) i.2 c.in-Some.name.now (lists c.args.served.now) (lists c.loop-name.served) (lists c.serve_hosts.new.served) i.4
          (by_hosts m c.args.place c.in-Some.name.now c.in-Some-get.hosts.now (lists c.loop-name.served) (lists c.serve_hosts.new.served) (sym c.in-Some-get.ensures.value) c.in_ok-serve_hosts.ensures),
    )

pub loop-name-preserved : goal.loop-name-preserved
loop-name-preserved g c =
    let i = c.loop-name.invariant in
    let m = get name_cmp c.args.host_groups.now in (
      i.0,
      i.1,
      i.2 ++ c.in-Some.name.now ∷ [],
      walked i.0 i.2 c.loop-name.name-iterator c.next.new.self c.in-Some.name.now i.3 (rest_more deref c.loop-name.name-iterator c.next.new.self c.next.result c.in-Some.name c.in-Some.is c.next.ensures.steps),
      before_more (ByHosts m c.args.place) i.2 c.in-Some.name.now (lists c.args.served.now) (lists c.loop-name.served) (lists c.loop-name.served) i.4
          (adds_none (ByHosts m c.args.place c.in-Some.name.now) (lists c.loop-name.served) (no_hosts m c.args.place c.in-Some.name.now (sym c.in_default.ensures.value))),
    )

pub returns : goal.returns
returns g c =
    let i = c.loop-name.invariant in
    group_served (get name_cmp c.args.host_groups.now) c.args.group.now c.args.place i.2 (lists c.args.served.now) (lists c.loop-name.served)
    (ap set.from_list (walk_end i.0 i.2 c.loop-name.name-iterator i.3 (rest_all deref c.loop-name.name-iterator c.next.new.self c.next.result c.in-None.is c.next.ensures.steps)) ∙ i.1) i.4
