use Rattle.std.proofs.Common.{◌∷◌, [], ◌++◌, sym, ap, ◌∙◌}
use Rattle.std.specs.FinSet as set
use Rattle.std.specs.Map.Iter.{deref}
use Rattle.std.proofs.lemmas.Map.Iter.{rest_more, rest_all}
use Rattle.fab_lemmas.proofs.Walks.{walked, walk_end}
use Rattle.fab_reach_base.proofs.Adding.{before_none, before_more}
use Rattle.fab_reach_books.specs.Inner.Sets.{HasPortIn}
use Rattle.fab_reach_pairs.proofs.OfferLoops.{ByHosts, served_added}
use Rattle.fab_reach_pairs.proofs.offers.add_served.Goals as goal

pub loop-name-init : goal.loop-name-init
loop-name-init g c = (c.host_groups-name-items.result, c.host_groups-name-items.ensures.host_groups, [], sym c.into_iter-name-iterator.ensures.into_iter_gives, before_none (ByHosts c.args.mapping.now c.args.held.now) (HasPortIn c.args.ports.now))

pub loop-name-preserved : goal.loop-name-preserved
loop-name-preserved g c =
    let i = c.loop-name.invariant in (
      i.0,
      i.1,
      i.2 ++ c.in-Some.name.now ∷ [],
      walked i.0 i.2 c.loop-name.name-iterator c.next.new.self c.in-Some.name.now i.3 (rest_more deref c.loop-name.name-iterator c.next.new.self c.next.result c.in-Some.name c.in-Some.is c.next.ensures.steps),
      before_more (ByHosts c.args.mapping.now c.args.held.now) i.2 c.in-Some.name.now (HasPortIn c.args.ports.now) (HasPortIn c.loop-name.ports) (HasPortIn c.add_hosts_of.new.ports) i.4
          (c.in_ok-add_hosts_of.ensures),
    )

pub returns : goal.returns
returns g c =
    let i = c.loop-name.invariant in
    served_added c.args.mapping.now c.args.held.now c.args.group.now i.2 (HasPortIn c.args.ports.now) (HasPortIn c.loop-name.ports)
    (ap set.from_list (walk_end i.0 i.2 c.loop-name.name-iterator i.3 (rest_all deref c.loop-name.name-iterator c.next.new.self c.next.result c.in-None.is c.next.ensures.steps)) ∙ i.1) i.4
