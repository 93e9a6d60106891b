use Rattle.std.proofs.Common.{◌≤◌, map, sym, subst, arith}
use Rattle.std.proofs.lemmas.List.{length-map}
use Rattle.fab_reach_base.specs.Orders.{Has}
use Rattle.fab_reach_base.specs.Views.{seen}
use Rattle.fab_reach_base.proofs.Adding.{Before, before_next, before_last}
use Rattle.fab_reach_base.proofs.Gathering.{filled}
use Rattle.fab_looks.specs.Inner.Offers.{GroupPath}
use Rattle.fab_looks.proofs.Gains.{now, now_at, now_within}
use Rattle.fab_looks.proofs.offering.offers.Goals as goal

pub loop-group-preserved : goal.loop-group-preserved
loop-group-preserved g c =
    let i = c.loop-group.invariant in
    let r = c.group-item.result in (
      i.0,
      i.1,
      before_next (GroupPath (seen c.args.view.now) c.args.ports.now c.args.volume.now) (map now c.args.groups.now) c.loop-group.group-index r.now (Has i.0) (Has c.loop-group.paths) (Has c.add_group.new.paths)
          (now_within c.args.groups.now c.loop-group.group-index c.loop-group-test.true) (now_at c.args.groups.now c.loop-group.group-index r c.loop-group-test.true c.group-item.is) i.2 c.in_ok-add_group.ensures,
    )

pub returns : goal.returns
returns g c =
    let i = c.loop-group.invariant in
    let Q = GroupPath (seen c.args.view.now) c.args.ports.now c.args.volume.now in
    let gs = map now c.args.groups.now in
    filled (Before Q gs) i.0 c.loop-group.paths i.1
    (before_last Q gs c.loop-group.group-index (Has i.0) (Has c.loop-group.paths) (subst (λ n. n ≤ c.loop-group.group-index) (sym (length-map c.args.groups.now now)) (omega (arith, c.loop-group-test.false))) i.2)
