use Rattle.std.proofs.Common.{◌≡◌, Some, is_some, refl, sym, ap, subst}
use Rattle.std.specs.FinMap as map
use Rattle.fab_reach_base.specs.fab_lemmas.MapsOfSets.{seen_set}
use Rattle.fab_reach_base.specs.fab_names.Orders.{member_cmp}
use Rattle.fab_reach_base.proofs.fab_names.OrderLaws.{member_total, member_exact}
use Rattle.fab_reach_base.specs.Records.{zoning_at}
use Rattle.fab_reach_base.specs.fab_zoning.Zonings.{FabricZoning}
use Rattle.fab_desk_base.proofs.SetItems.{set_found}
use Rattle.fab_desk_base.proofs.zonings.alias_shown.Goals as goal

pub returns : goal.returns
returns g c =
    let there : map.get (zoning_at c.args.world.now.config c.args.fabric).aliases c.args.name.now ≡ Some (seen_set member_cmp c.in-Some.alias.now) =
    subst (λ (v : FabricZoning). map.get v.aliases c.args.name.now ≡ Some (seen_set member_cmp c.in-Some.alias.now)) c.zoning_in-zoning.ensures (sym c.in-Some.ensures) in
    let found = set_found member_total member_exact (zoning_at c.args.world.now.config c.args.fabric).aliases c.args.name.now c.in-Some.alias.now c.in_ok-members.members.items there c.len-count.ensures.ordered c.in_ok-members.ensures in
    (ap is_some there, (found.0, found.1, refl, refl, found.2))
