use Rattle.std.proofs.Common.{[], ◌∷◌, ◌++◌, sym}
use Rattle.fab_reach_base.proofs.fab_lemmas.Walks.{walked, walk_end}
use Rattle.fab_reach_base.proofs.Adding.{before_none, before_more}
use Rattle.fab_world.specs.Worlds.{records_of}
use Rattle.fab_looks_ways.specs.Inner.Gathering.{GroupEnds}
use Rattle.fab_looks_ways.specs.Pairs.{HasEnds}
use Rattle.fab_looks_ways.proofs.Ended.{groups_added}
use Rattle.fab_looks_ways.proofs.gathering.add_groups.Goals as goal

pub loop-name-init : goal.loop-name-init
loop-name-init g c = ([], sym c.into_iter-name-iterator.ensures.into_iter_gives.0, before_none (GroupEnds (records_of c.args.world.now) c.args.ports.now c.args.host.now) (HasEnds c.args.ends.now))

pub loop-name-preserved : goal.loop-name-preserved
loop-name-preserved g c =
    let i = c.loop-name.invariant in
    let n = c.in-Some.name.now in (
      i.0 ++ n ∷ [],
      walked c.args.names.now.keys i.0 c.loop-name.name-iterator c.next.new.self n i.1 c.in-Some.ensures.steps,
      before_more (GroupEnds (records_of c.args.world.now) c.args.ports.now c.args.host.now) i.0 n (HasEnds c.args.ends.now) (HasEnds c.loop-name.ends) (HasEnds c.add_group.new.ends) i.2 c.in_ok-add_group.ensures,
    )

pub returns : goal.returns
returns g c =
    let i = c.loop-name.invariant in
    groups_added (records_of c.args.world.now) c.args.ports.now c.args.host.now c.args.names.now i.0 (HasEnds c.args.ends.now) (HasEnds c.loop-name.ends)
    (walk_end c.args.names.now.keys i.0 c.loop-name.name-iterator i.1 c.in-None.ensures.steps.0) i.2
