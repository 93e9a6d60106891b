use Rattle.std.proofs.Common.{◌∷◌, [], ◌++◌, sym, ap, ◌∙◌}
use Rattle.std.specs.FinSet as set
use Rattle.std.specs.Map.Iter.{deref}
use Rattle.std.proofs.lemmas.Map.Iter.{rest_more, rest_all}
use Rattle.fab_inventory.proofs.fab_lemmas.Adding.{before_none, before_more}
use Rattle.fab_inventory.proofs.fab_lemmas.Walks.{walked, walk_end}
use Rattle.fab_mapping_base.specs.ClashSearch.{lists}
use Rattle.fab_mapping_base.proofs.Serving.{ByHost, hosts_served}
use Rattle.fab_mapping_base.proofs.served.serve_hosts.Goals as goal

pub loop-host-init : goal.loop-host-init
loop-host-init g c = (c.hosts-host-items.result, c.hosts-host-items.ensures.hosts, [], sym c.into_iter-host-iterator.ensures.into_iter_gives, before_none (ByHost c.args.place) (lists c.args.served.now))

pub loop-host-preserved : goal.loop-host-preserved
loop-host-preserved g c =
    let i = c.loop-host.invariant in (
      i.0,
      i.1,
      i.2 ++ c.in-Some.host.now ∷ [],
      walked i.0 i.2 c.loop-host.host-iterator c.next.new.self c.in-Some.host.now i.3 (rest_more deref c.loop-host.host-iterator c.next.new.self c.next.result c.in-Some.host c.in-Some.is c.next.ensures.steps),
      before_more (ByHost c.args.place) i.2 c.in-Some.host.now (lists c.args.served.now) (lists c.loop-host.served) (lists c.serve.new.served) i.4 c.in_ok-serve.ensures,
    )

pub returns : goal.returns
returns g c =
    let i = c.loop-host.invariant in
    hosts_served c.args.hosts.now.hosts c.args.place i.2 (lists c.args.served.now) (lists c.loop-host.served)
    (ap set.from_list (walk_end i.0 i.2 c.loop-host.host-iterator i.3 (rest_all deref c.loop-host.host-iterator c.next.new.self c.next.result c.in-None.is c.next.ensures.steps)) ∙ i.1) i.4
