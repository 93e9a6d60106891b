use Rattle.std.proofs.Common.{◌∷◌, [], ◌++◌, sym, ap, ◌∙◌}
use Rattle.std.specs.FinSet as set
use Rattle.std.specs.Map.Iter.{deref}
use Rattle.std.proofs.lemmas.Map.Iter.{rest_more, rest_all}
use Rattle.fab_lemmas.proofs.Walks.{walked, walk_end}
use Rattle.fab_reach_base.proofs.Adding.{before_none, before_more}
use Rattle.fab_reach_books.specs.Inner.Sets.{HasPortIn}
use Rattle.fab_reach_index.specs.Inner.Holding.{HoldsIn}
use Rattle.fab_reach_books.proofs.SetLoops.{all_in}
use Rattle.fab_reach_pairs.proofs.offers.add_hosts.Goals as goal

pub loop-host-init : goal.loop-host-init
loop-host-init g c = (c.hosts-host-items.result, c.hosts-host-items.ensures.hosts, [], sym c.into_iter-host-iterator.ensures.into_iter_gives, before_none (HoldsIn c.args.held.now) (HasPortIn c.args.ports.now))

pub loop-host-preserved : goal.loop-host-preserved
loop-host-preserved g c =
    let i = c.loop-host.invariant in (
      i.0,
      i.1,
      i.2 ++ c.in-Some.host.now ∷ [],
      walked i.0 i.2 c.loop-host.host-iterator c.next.new.self c.in-Some.host.now i.3 (rest_more deref c.loop-host.host-iterator c.next.new.self c.next.result c.in-Some.host c.in-Some.is c.next.ensures.steps),
      before_more (HoldsIn c.args.held.now) i.2 c.in-Some.host.now (HasPortIn c.args.ports.now) (HasPortIn c.loop-host.ports) (HasPortIn c.add_held.new.ports) i.4
          (c.in_ok-add_held.ensures),
    )

pub returns : goal.returns
returns g c =
    let i = c.loop-host.invariant in
    all_in (HoldsIn c.args.held.now) c.args.hosts.now.hosts i.2 (HasPortIn c.args.ports.now) (HasPortIn c.loop-host.ports)
    (ap set.from_list (walk_end i.0 i.2 c.loop-host.host-iterator i.3 (rest_all deref c.loop-host.host-iterator c.next.new.self c.next.result c.in-None.is c.next.ensures.steps)) ∙ i.1) i.4
