use Rattle.std.proofs.Common.{◌≡◌, refl, ap, ◌∙◌, subst}
use Rattle.fab_reach_base.specs.fab_inventory.declared.port.Port.{Port}
use Rattle.fab_reach_base.specs.Records.{zoning_at}
use Rattle.fab_world.specs.Worlds.{WorldRows}
use Rattle.fab_reach_base.specs.fab_zoning.Joins.{Joined, Explains, InDefaultZone}
use Rattle.fab_reach_base.specs.fab_zoning.Zonings.{FabricZoning}
use Rattle.fab_looks_ways.proofs.ties.tie_of.Goals as goal

pub returns-in-Some-Default-clause-tie : goal.returns-in-Some-Default-clause-tie
returns-in-Some-Default-clause-tie g c =
    let x : Port = c.args.p.now in
    let y : Port = c.args.q.now in
    let P : FabricZoning → Type 0 = λ v. Joined v x y × InDefaultZone v x y in
    let why : InDefaultZone c.zoning.result.now x y = subst (Explains c.zoning.result.now x y) c.in-Some-Default.field-0-is c.in-Some-Default.ensures.why in
    let zoned : c.zoning.result.now ≡ zoning_at c.args.world.now.config c.args.fabric = c.zoning.ensures ∙ ap (λ (v : WorldRows). zoning_at v.config c.args.fabric) c.world.view_is in
    subst P zoned (c.in-Some-Default.ensures.joined.0 refl, why)
