use Rattle.fab_reach_base.specs.Reach.{ReachesFrom}
use Rattle.fab_reach_base.proofs.Books.{list_as}
use Rattle.fab_reach_base.proofs.Gathering.{filled, listed_all}
use Rattle.fab_reach.specs.Inner.Owned.{IsOwnedBy}
use Rattle.fab_reach.proofs.OwnRows.{owned_are}
use Rattle.fab_reach.proofs.own_rows.own_rows.Goals as goal

pub returns : goal.returns
returns g c w are =
    let h = c.args.host.now in
    let m = c.args.index.now in
    list_as (IsOwnedBy m.held m.rows h) (ReachesFrom w h) c.in_ok-items.items.items (λ x. (owned_are w m are h x).0) (λ x. (owned_are w m are h x).1)
    (listed_all (IsOwnedBy m.held m.rows h) c.add_held_rows.new.own c.in_ok-items.items.items c.len-count.ensures.ordered c.in_ok-items.ensures (filled (IsOwnedBy m.held m.rows h) c.new-own.result c.add_held_rows.new.own c.new-own.ensures.empty c.in_ok-add_held_rows.ensures))
