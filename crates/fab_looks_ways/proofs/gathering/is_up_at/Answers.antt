use Rattle.std.proofs.Common.{◌≡◌, Some, sym, subst}
use Rattle.fab_reach_base.specs.fab_inventory.Ports.{port_at}
use Rattle.fab_reach_base.proofs.Same.{same_some}
use Rattle.fab_world.specs.Worlds.{WorldRows}
use Rattle.fab_reach_base.specs.fab_zoning_rows.Holding.{IsLoggedInAt}
use Rattle.fab_looks_ways.proofs.gathering.is_up_at.Goals as goal

pub returns-in-Some : goal.returns-in-Some
returns-in-Some g c =
    let x = c.in-Some.port in
    let is = sym (subst (λ (v : WorldRows). Some x ≡ port_at v.inventory.ports c.args.name.now) c.world.view_is c.in-Some.ensures.port) in (
      λ t. (x, is, c.is_logged_in_at.ensures.0 t),
      λ h. c.is_logged_in_at.ensures.1 (subst (IsLoggedInAt c.args.fabric) (same_some h.1 is) h.2),
    )
