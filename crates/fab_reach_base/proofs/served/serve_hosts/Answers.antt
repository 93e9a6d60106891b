use Rattle.std.proofs.Common.{◌∷◌, [], ◌++◌, sym, ap, ◌∙◌}
use Rattle.std.specs.FinSet as set
use Rattle.std.specs.Map.Iter.{deref}
use Rattle.std.proofs.lemmas.Map.Iter.{rest_more, rest_all}
use Rattle.fab_mapping.proofs.fab_mapping_base.fab_lemmas.Walks.{walked, walk_end}
use Rattle.fab_reach_base.specs.Gathering.{Lists}
use Rattle.fab_reach_base.proofs.Adding.{before_none, before_more}
use Rattle.fab_reach_base.proofs.Services.{ByHost, adds_one, hosts_served}
use Rattle.fab_reach_base.proofs.served.serve_hosts.Goals as goal

pub loop-host-init : goal.loop-host-init
loop-host-init g c = (c.hosts-host-items.result, c.hosts-host-items.ensures.hosts, [], sym c.into_iter-host-iterator.ensures.into_iter_gives, before_none (ByHost c.args.group) (Lists c.args.served.now))

pub loop-host-preserved : goal.loop-host-preserved
loop-host-preserved g c = (
  c.loop-host.invariant.0,
  c.loop-host.invariant.1,
  c.loop-host.invariant.2 ++ c.in-Some.host.now ∷ [],
  walked c.loop-host.invariant.0 c.loop-host.invariant.2 c.loop-host.host-iterator c.next.new.self c.in-Some.host.now c.loop-host.invariant.3 (rest_more deref c.loop-host.host-iterator c.next.new.self c.next.result c.in-Some.host c.in-Some.is c.next.ensures.steps),
  before_more (ByHost c.args.group) c.loop-host.invariant.2 c.in-Some.host.now (Lists c.args.served.now) (Lists c.loop-host.served) (Lists c.put_in_tree.new.sets) c.loop-host.invariant.4
      (adds_one (c.in-Some.host.now, c.args.group) (Lists c.loop-host.served) (Lists c.put_in_tree.new.sets) c.in_ok-put_in_tree.ensures.puts),
)

pub returns : goal.returns
returns g c = hosts_served c.args.hosts.now.hosts c.args.group c.loop-host.invariant.2 (Lists c.args.served.now) (Lists c.loop-host.served)
    (ap set.from_list (walk_end c.loop-host.invariant.0 c.loop-host.invariant.2 c.loop-host.host-iterator c.loop-host.invariant.3 (rest_all deref c.loop-host.host-iterator c.next.new.self c.next.result c.in-None.is c.next.ensures.steps)) ∙ c.loop-host.invariant.1)
    c.loop-host.invariant.4
