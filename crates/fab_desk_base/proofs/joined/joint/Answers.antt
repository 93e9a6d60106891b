use Rattle.std.proofs.Common.{refl, subst}
use Rattle.fab_reach_base.specs.fab_inventory.declared.port.Port.{Port}
use Rattle.fab_reach_base.specs.fab_zoning.Joins.{Joined, Explains, InDefaultZone}
use Rattle.fab_reach_base.specs.fab_zoning.Zonings.{FabricZoning}
use Rattle.fab_desk_base.proofs.joined.joint.Goals as goal

pub returns-in-Some-Default : goal.returns-in-Some-Default
returns-in-Some-Default g c =
    let one : Port = c.args.one.now in
    let other : Port = c.args.other.now in
    let P : FabricZoning → Type 0 = λ v. Joined v one other × InDefaultZone v one other in
    let why : InDefaultZone c.zoning_in.result.now one other = subst (Explains c.zoning_in.result.now one other) c.in-Some-Default.field-0-is c.in-Some-Default.ensures.why in
    let both = subst P c.zoning_in.ensures (c.in-Some-Default.ensures.joined.0 refl, why) in
    (c.in-Some.fabric, both.0, both.1)
