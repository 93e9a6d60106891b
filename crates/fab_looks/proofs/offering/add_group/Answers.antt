use Rattle.std.proofs.Common.{◌∷◌, [], ◌++◌, sym, ap, ◌∙◌}
use Rattle.std.specs.FinSet as set
use Rattle.std.specs.Map.Iter.{deref}
use Rattle.std.proofs.lemmas.Map.Iter.{rest_more, rest_all}
use Rattle.fab_lemmas.proofs.Walks.{walked, walk_end}
use Rattle.fab_reach_base.specs.Orders.{Has}
use Rattle.fab_reach_base.specs.Views.{seen}
use Rattle.fab_reach_base.proofs.Adding.{before_none, before_more}
use Rattle.fab_looks.specs.Inner.Offers.{NamedPath}
use Rattle.fab_looks.proofs.Gains.{targets_added}
use Rattle.fab_looks.proofs.offering.add_group.Goals as goal

pub loop-target-init : goal.loop-target-init
loop-target-init g c = (
  c.targets-target-items.result,
  c.targets-target-items.ensures.targets,
  [],
  sym c.into_iter-target-iterator.ensures.into_iter_gives,
  before_none (NamedPath (seen c.args.view.now) c.args.ports.now c.args.group.now c.args.volume.now) (Has c.args.paths.now),
)

pub loop-target-preserved : goal.loop-target-preserved
loop-target-preserved g c =
    let i = c.loop-target.invariant in (
      i.0,
      i.1,
      i.2 ++ c.in-Some.target.now ∷ [],
      walked i.0 i.2 c.loop-target.target-iterator c.next.new.self c.in-Some.target.now i.3 (rest_more deref c.loop-target.target-iterator c.next.new.self c.next.result c.in-Some.target c.in-Some.is c.next.ensures.steps),
      before_more (NamedPath (seen c.args.view.now) c.args.ports.now c.args.group.now c.args.volume.now) i.2 c.in-Some.target.now (Has c.args.paths.now) (Has c.loop-target.paths) (Has c.add_named.new.paths) i.4 c.in_ok-add_named.ensures,
    )

pub returns : goal.returns
returns g c =
    let i = c.loop-target.invariant in
    targets_added (seen c.args.view.now) c.args.ports.now c.args.group.now c.args.volume.now i.2 (Has c.args.paths.now) (Has c.loop-target.paths)
    (ap set.from_list (walk_end i.0 i.2 c.loop-target.target-iterator i.3 (rest_all deref c.loop-target.target-iterator c.next.new.self c.next.result c.in-None.is c.next.ensures.steps)) ∙ i.1) i.4
