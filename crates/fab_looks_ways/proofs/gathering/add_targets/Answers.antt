use Rattle.std.proofs.Common.{◌∷◌, [], ◌++◌, sym, ap, ◌∙◌}
use Rattle.std.specs.FinSet as set
use Rattle.std.specs.Map.Iter.{deref}
use Rattle.std.proofs.lemmas.Map.Iter.{rest_more, rest_all}
use Rattle.fab_reach_base.proofs.fab_lemmas.Walks.{walked, walk_end}
use Rattle.fab_reach_base.proofs.Adding.{before_none, before_more}
use Rattle.fab_world.specs.Worlds.{records_of}
use Rattle.fab_looks_ways.specs.Inner.Gathering.{TargetEnds}
use Rattle.fab_looks_ways.specs.Pairs.{HasEnds}
use Rattle.fab_looks_ways.proofs.Ended.{targets_added}
use Rattle.fab_looks_ways.proofs.gathering.add_targets.Goals as goal

pub loop-target-init : goal.loop-target-init
loop-target-init g c = (
  c.targets-target-items.result,
  c.targets-target-items.ensures.targets,
  [],
  sym c.into_iter-target-iterator.ensures.into_iter_gives,
  before_none (TargetEnds (records_of c.args.world.now) c.args.ports.now) (HasEnds c.args.ends.now),
)

pub loop-target-preserved : goal.loop-target-preserved
loop-target-preserved g c =
    let i = c.loop-target.invariant in (
      i.0,
      i.1,
      i.2 ++ c.in-Some.target.now ∷ [],
      walked i.0 i.2 c.loop-target.target-iterator c.next.new.self c.in-Some.target.now i.3 (rest_more deref c.loop-target.target-iterator c.next.new.self c.next.result c.in-Some.target c.in-Some.is c.next.ensures.steps),
      before_more (TargetEnds (records_of c.args.world.now) c.args.ports.now) i.2 c.in-Some.target.now (HasEnds c.args.ends.now) (HasEnds c.loop-target.ends) (HasEnds c.add_target.new.ends) i.4 c.in_ok-add_target.ensures,
    )

pub returns : goal.returns
returns g c =
    let i = c.loop-target.invariant in
    targets_added (records_of c.args.world.now) c.args.ports.now c.args.group.now i.2 (HasEnds c.args.ends.now) (HasEnds c.loop-target.ends)
    (ap set.from_list (walk_end i.0 i.2 c.loop-target.target-iterator i.3 (rest_all deref c.loop-target.target-iterator c.next.new.self c.next.result c.in-None.is c.next.ensures.steps)) ∙ i.1) i.4
