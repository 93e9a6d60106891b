use Rattle.std.proofs.Common.{◌≡◌, [], drop, true}
use Rattle.fab_wire_base.specs.Routes.{table_from}
use Rattle.fab_wire_base.proofs.RouteLemmas.{all_fit}
use Rattle.fab_wire_base.proofs.routes.make_router.Given as goal

abbrev pub invariant-loop-route : goal.invariant-loop-route
invariant-loop-route l =
    (table_from l.router (drop l.route-index l.route-items) ≡ table_from [] l.route-items) × (all_fit l.router (drop l.route-index l.route-items) ≡ true)
