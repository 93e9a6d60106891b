use Rattle.std.proofs.Common.{[], ◌∷◌, ◌++◌}
use Rattle.std.specs.Map.Iter.{deref_pair}
use Rattle.std.proofs.lemmas.Map.Iter.{rest_more, rest_all}
use Rattle.fab_lemmas.proofs.Walks.{walked, walk_end}
use Rattle.fab_reach_base.proofs.Adding.{before_more}
use Rattle.fab_reach_base.specs.Views.{seen}
use Rattle.fab_reach_books.specs.Inner.Sets.{HasPairIn}
use Rattle.fab_reach_pairs.proofs.LooseLoops.{OfHost, all_hosts}
use Rattle.fab_reach_pairs.proofs.loose.add_loose_pairs.Goals as goal

pub loop-host-preserved : goal.loop-host-preserved
loop-host-preserved g c =
    let i = c.loop-host.invariant in (
      i.0 ++ (c.in-Some.host.now, c.in-Some.groups.now) ∷ [],
      walked c.args.index.now.groups.entries i.0 c.loop-host.host-iterator c.next.new.self (c.in-Some.host.now, c.in-Some.groups.now) i.1 (rest_more deref_pair c.loop-host.host-iterator c.next.new.self c.next.result (c.in-Some.host, c.in-Some.groups) c.in-Some.is c.next.ensures.steps),
      before_more (OfHost (seen c.args.view.now) c.args.index.now c.requires.1 c.args.fabric) i.0 (c.in-Some.host.now, c.in-Some.groups.now) (HasPairIn c.args.pairs.now) (HasPairIn c.loop-host.pairs) (HasPairIn c.add_of_host.new.pairs) i.2 c.in_ok-add_of_host.ensures,
    )

pub returns : goal.returns
returns g c =
    let i = c.loop-host.invariant in
    all_hosts (seen c.args.view.now) c.args.index.now c.requires.1 c.args.fabric i.0 (HasPairIn c.args.pairs.now) (HasPairIn c.loop-host.pairs) c.into_iter-host-iterator.ensures.into_iter_gives.5
    (walk_end c.args.index.now.groups.entries i.0 c.loop-host.host-iterator i.1 (rest_all deref_pair c.loop-host.host-iterator c.next.new.self c.next.result c.in-None.is c.next.ensures.steps)) i.2
