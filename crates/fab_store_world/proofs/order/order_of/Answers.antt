use Rattle.std.specs.Prelude.{MatchOption}
use Rattle.std.proofs.Common.{◌≡◌, ◌≢◌, ℕ, List, subst}
use Rattle.fab_store_world.specs.Orders.{numbered}
use Rattle.fab_store_world.proofs.Orders.{no_order, this_order}
use Rattle.fab_store_world.proofs.order.order_of.Goals as goal

pub returns-in-Some : goal.returns-in-Some
returns-in-Some g c =
    let told = subst (λ o. MatchOption o ((order : List (List ℕ)) → c.in_ok-places.places.keys ≢ numbered 1 order) (λ order. c.in_ok-places.places.keys ≡ numbered 1 order.items)) c.in-Some.is c.in_ok-order.ensures in
    this_order c.args.rows.now c.in_ok-places.places.keys c.in-Some.order.items (c.have_no_place.ensures.0 c.if-not-have_no_place.false) c.in_ok-places.ensures told

pub returns : goal.returns
returns g c =
    let told = subst (λ o. MatchOption o ((order : List (List ℕ)) → c.in_ok-places.places.keys ≢ numbered 1 order) (λ order. c.in_ok-places.places.keys ≡ numbered 1 order.items)) c.in-None.is c.in_ok-order.ensures in
    no_order c.args.rows.now c.in_ok-places.places.keys c.in_ok-places.ensures told
