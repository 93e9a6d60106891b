use Rattle.std.proofs.Common.{◌∙◌, [], ap, refl}
use Rattle.fab_wire_base.specs.Routes.{table_from}
use Rattle.fab_wire_base.proofs.RouteLemmas.{table-more, table-done, routes_fit, next-fits, fit-more}
use Rattle.fab_wire_base.proofs.routes.make_router.Goals as goal

pub loop-route-init : goal.loop-route-init
loop-route-init c = rw (c.new-router.ensures, c.as_slice-route-items.ensures, c.every_route-routes.ensures) (refl, routes_fit)

pub add-requires : goal.add-requires
add-requires c = next-fits _ _ c.loop-route.route-index _ c.loop-route-test.true c.loop-route.invariant.1

pub loop-route-preserved : goal.loop-route-preserved
loop-route-preserved c = (
  table-more _ _ _ _ c.loop-route.route-index _ c.loop-route-test.true c.in_ok-add.ensures.ok c.loop-route.invariant.0,
  fit-more _ _ _ c.loop-route.route-index _ c.loop-route-test.true c.in_ok-add.ensures.ok c.loop-route.invariant.1,
)

pub returns-clause-ok : goal.returns-clause-ok
returns-clause-ok c = table-done _ _ c.loop-route.route-index _ c.loop-route-test.false c.loop-route.invariant.0 ∙ ap (λ rs. table_from [] rs) (c.as_slice-route-items.ensures ∙ c.every_route-routes.ensures)
