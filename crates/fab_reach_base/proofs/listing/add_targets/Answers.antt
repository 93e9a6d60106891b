use Rattle.std.proofs.Common.{◌∷◌, [], ◌++◌, sym, ap, ◌∙◌}
use Rattle.std.specs.FinSet as set
use Rattle.std.specs.Map.Iter.{deref}
use Rattle.std.proofs.lemmas.Map.Iter.{rest_more, rest_all}
use Rattle.fab_mapping.proofs.fab_mapping_base.fab_lemmas.Walks.{walked, walk_end}
use Rattle.fab_reach_base.proofs.Adding.{before_none, before_more}
use Rattle.fab_reach_base.proofs.Gathering.{Is, HasPort, adds_port, targets_added}
use Rattle.fab_reach_base.proofs.listing.add_targets.Goals as goal

pub loop-target-init : goal.loop-target-init
loop-target-init g c = (c.targets-target-items.result, c.targets-target-items.ensures.targets, [], sym c.into_iter-target-iterator.ensures.into_iter_gives, before_none Is (HasPort c.args.targets.now))

pub loop-target-preserved : goal.loop-target-preserved
loop-target-preserved g c =
    let i = c.loop-target.invariant in (
      i.0,
      i.1,
      i.2 ++ c.in-Some.target.now ∷ [],
      walked i.0 i.2 c.loop-target.target-iterator c.next.new.self c.in-Some.target.now i.3 (rest_more deref c.loop-target.target-iterator c.next.new.self c.next.result c.in-Some.target c.in-Some.is c.next.ensures.steps),
      before_more Is i.2 c.in-Some.target.now (HasPort c.args.targets.now) (HasPort c.loop-target.targets) (HasPort c.insert.new.self) i.4 (adds_port c.loop-target.targets c.insert.new.self c.in-Some.target.now c.in_ok-insert.ensures.updates.0),
    )

pub returns : goal.returns
returns g c =
    let i = c.loop-target.invariant in
    targets_added c.args.group.now.targets i.2 (HasPort c.args.targets.now) (HasPort c.loop-target.targets)
    (ap set.from_list (walk_end i.0 i.2 c.loop-target.target-iterator i.3 (rest_all deref c.loop-target.target-iterator c.next.new.self c.next.result c.in-None.is c.next.ensures.steps)) ∙ i.1) i.4
