use Rattle.std.proofs.Common.{◌≡◌, true, ap, ◌∙◌, subst}
use Rattle.fab_reach_base.specs.Records.{zoning_at}
use Rattle.fab_world.specs.Worlds.{WorldRows}
use Rattle.fab_reach_base.specs.fab_zoning.Zonings.{FabricZoning}
use Rattle.fab_reach_base.specs.fab_zoning_rows.Holding.{Holds}
use Rattle.fab_reach_base.specs.fab_zoning_rows.PortZones.{in_zones}
use Rattle.fab_looks_ways.specs.Pairs.{told_as}
use Rattle.fab_looks_ways.proofs.Tied.{zones_told}
use Rattle.fab_looks_ways.proofs.zoned.zoned_at.Goals as goal

pub returns : goal.returns
returns g c =
    let zones = c.zones_of-zones.result in
    let x = c.args.port.now in
    let zoned : c.zoning.result.now ≡ zoning_at c.args.world.now.config c.args.fabric = c.zoning.ensures ∙ ap (λ (v : WorldRows). zoning_at v.config c.args.fabric) c.world.view_is in
    zones_told (zoning_at c.args.world.now.config c.args.fabric) x zones c.in_ok-names.names c.told_as.result c.len-count.ensures.ordered c.in_ok-names.ensures
    (λ z. subst (λ (v : FabricZoning). (in_zones zones z ≡ true → Holds v.rows x z) × (Holds v.rows x z → in_zones zones z ≡ true)) zoned (c.zones_of-zones.ensures z)) (c.told_as.ensures ∙ ap told_as (c.deref.ensures.value ∙ c.in_ok-items.ensures))
