use Rattle.std.proofs.Common.{◌∷◌, [], ◌++◌, sym}
use Rattle.fab_mapping.proofs.fab_mapping_base.fab_lemmas.Walks.{walked, walk_end}
use Rattle.fab_reach_base.specs.Gathering.{HasTarget}
use Rattle.fab_reach_base.proofs.Adding.{before_none, before_more, before_skip}
use Rattle.fab_reach_base.proofs.Gathering.{HasPort, by_name, no_name, all_offered}
use Rattle.fab_reach_base.proofs.listing.targets_of.Goals as goal

pub loop-name-init : goal.loop-name-init
loop-name-init g c = (c.new-targets.result, c.new-targets.ensures.empty, [], sym c.into_iter-name-iterator.ensures.into_iter_gives.0, before_none (HasTarget c.args.mapping.now) (HasPort c.new-targets.result))

pub loop-name-preserved-in-Continue-1 : goal.loop-name-preserved-in-Continue-1
loop-name-preserved-in-Continue-1 g c =
    let i = c.loop-name.invariant in (
      i.0,
      i.1,
      i.2 ++ c.in-Some.name.now ∷ [],
      walked c.args.groups.now.keys i.2 c.loop-name.name-iterator c.next.new.self c.in-Some.name.now i.3 c.in-Some.ensures.steps,
      before_more (HasTarget c.args.mapping.now) i.2 c.in-Some.name.now (HasPort i.0) (HasPort c.loop-name.targets) (HasPort c.add_targets.new.targets) i.4
          (by_name c.args.mapping.now c.in-Some.name.now c.in-Some-group.group.now (HasPort c.loop-name.targets) (HasPort c.add_targets.new.targets) (sym c.in-Some-group.ensures) c.in_ok-add_targets.ensures),
    )

pub loop-name-preserved : goal.loop-name-preserved
loop-name-preserved g c =
    let i = c.loop-name.invariant in (
      i.0,
      i.1,
      i.2 ++ c.in-Some.name.now ∷ [],
      walked c.args.groups.now.keys i.2 c.loop-name.name-iterator c.next.new.self c.in-Some.name.now i.3 c.in-Some.ensures.steps,
      before_skip (HasTarget c.args.mapping.now) i.2 c.in-Some.name.now (HasPort i.0) (HasPort c.loop-name.targets) i.4 (no_name c.args.mapping.now c.in-Some.name.now (sym c.in_default.ensures)),
    )

pub returns : goal.returns
returns g c =
    let i = c.loop-name.invariant in
    all_offered c.args.mapping.now c.args.groups.now i.2 i.0 c.loop-name.targets i.1 (walk_end c.args.groups.now.keys i.2 c.loop-name.name-iterator i.3 c.in-None.ensures.steps.0) i.4
