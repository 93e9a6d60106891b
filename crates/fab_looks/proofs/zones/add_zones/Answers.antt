use Rattle.std.proofs.Common.{◌≡◌, true, None, Some, sym, ◌∙◌, ap, subst}
use Rattle.fab_reach_base.specs.fab_inventory.Ports.{port_at}
use Rattle.fab_reach_base.specs.Records.{zoning_at}
use Rattle.fab_world.specs.Worlds.{WorldRows}
use Rattle.fab_reach_base.specs.fab_zoning_rows.Holding.{Holds}
use Rattle.fab_reach_base.specs.fab_zoning_rows.PortZones.{in_zones}
use Rattle.fab_reach_base.specs.fab_zoning.Zonings.{FabricZoning}
use Rattle.fab_looks.proofs.Ports.{no_zone, zone_unknown, zone_unplaced, zones_added}
use Rattle.fab_looks.proofs.zones.add_zones.Goals as goal

pub returns-in_default : goal.returns-in_default
returns-in_default g c =
    no_zone c.args.policy.now c.args.world.now c.args.id c.args.name.now c.args.queries.now.items
    (zone_unknown c.args.policy.now c.args.world.now c.args.id c.args.name.now (sym (subst (λ (v : WorldRows). None ≡ port_at v.inventory.ports c.args.name.now) c.world.view_is c.in_default.ensures.port)))

pub returns-in_default-at : goal.returns-in_default-at
returns-in_default-at g c =
    let x = c.in-Some.port in
    let is = sym (subst (λ (v : WorldRows). Some x ≡ port_at v.inventory.ports c.args.name.now) c.world.view_is c.in-Some.ensures.port) in
    no_zone c.args.policy.now c.args.world.now c.args.id c.args.name.now c.args.queries.now.items
    (zone_unplaced c.args.policy.now c.args.world.now c.args.id c.args.name.now x is c.in_default-at.is)

pub returns : goal.returns
returns g c =
    let f = c.in-Some-at.fabric in
    let x = c.in-Some.port in
    let zones = c.zones_of-zones.result in
    let zoned : c.zoning.result.now ≡ zoning_at c.args.world.now.config f = c.zoning.ensures ∙ ap (λ (v : WorldRows). zoning_at v.config f) c.world.view_is in
    zones_added c.args.policy.now c.args.world.now c.args.id c.args.name.now x f c.in-Some-at.field-0-1 zones
    (sym (subst (λ (v : WorldRows). Some x ≡ port_at v.inventory.ports c.args.name.now) c.world.view_is c.in-Some.ensures.port))
    c.in-Some-at.is
    (λ z. subst (λ (v : FabricZoning). (in_zones zones z ≡ true → Holds v.rows x z) × (Holds v.rows x z → in_zones zones z ≡ true)) zoned (c.zones_of-zones.ensures z))
    c.in_ok-names.names c.args.queries.now.items c.add_those.new.queries.items c.len-count.ensures.ordered c.in_ok-names.ensures c.in_ok-add_those.ensures
