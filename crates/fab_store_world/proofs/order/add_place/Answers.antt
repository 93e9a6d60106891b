use Rattle.std.proofs.Common.{sym, ap}
use Rattle.fab_world.specs.fab_store_rows.PlanEntries.{PlanEntry}
use Rattle.fab_store_world.proofs.Orders.{active_added}
use Rattle.fab_store_world.proofs.order.add_place.Goals as goal

pub returns : goal.returns
returns g c =
    active_added c.args.row.now c.args.places.now c.insert.new.self (c.row.inside.position, c.row.inside.name)
    (c.is_active.ensures.0 c.if-not-is_active.false, sym (ap (λ (e : PlanEntry). e.position) c.row.view_is), sym (ap (λ (e : PlanEntry). e.name) c.row.view_is)) c.in_ok-insert.ensures.updates.0
