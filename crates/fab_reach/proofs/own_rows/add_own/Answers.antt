use Rattle.std.proofs.Common.{[], ◌∷◌, ◌++◌, sym}
use Rattle.fab_lemmas.proofs.Walks.{walked, walk_end}
use Rattle.fab_reach_base.specs.Orders.{Has}
use Rattle.fab_reach_base.proofs.Adding.{before_none, before_more}
use Rattle.fab_reach.specs.Inner.Owned.{IsFrom}
use Rattle.fab_reach.proofs.OwnRows.{all_own}
use Rattle.fab_reach.proofs.own_rows.add_own.Goals as goal

pub loop-port-init : goal.loop-port-init
loop-port-init g c = ([], sym c.into_iter-port-iterator.ensures.into_iter_gives.0, before_none (IsFrom c.args.rows.now) (Has c.args.own.now))

pub loop-port-preserved : goal.loop-port-preserved
loop-port-preserved g c =
    let i = c.loop-port.invariant in (
      i.0 ++ c.in-Some.port.now ∷ [],
      walked c.args.ports.now.keys i.0 c.loop-port.port-iterator c.next.new.self c.in-Some.port.now i.1 c.in-Some.ensures.steps,
      before_more (IsFrom c.args.rows.now) i.0 c.in-Some.port.now (Has c.args.own.now) (Has c.loop-port.own) (Has c.add_from.new.own) i.2 c.in_ok-add_from.ensures,
    )

pub returns : goal.returns
returns g c =
    let i = c.loop-port.invariant in
    all_own c.args.ports.now c.args.rows.now i.0 (Has c.args.own.now) (Has c.loop-port.own)
    (walk_end c.args.ports.now.keys i.0 c.loop-port.port-iterator i.1 c.in-None.ensures.steps.0) i.2
