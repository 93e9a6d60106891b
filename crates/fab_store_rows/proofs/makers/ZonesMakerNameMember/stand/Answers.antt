use Rattle.std.proofs.Common.{◌≡◌, true, subst}
use Rattle.std.specs.FinMap as map
use Rattle.std.specs.Option.{option_copied}
use Rattle.fab_reach_base.proofs.fab_names.OrderLaws.{member_total, member_exact}
use Rattle.fab_reach_base.specs.fab_lemmas.MapsOfSets.{has}
use Rattle.fab_reach_base.specs.fab_zoning.Zonings.{FabricZoning}
use Rattle.fab_store_rows.specs.Gathering.{zone_row}
use Rattle.fab_store_rows.specs.Standing.{Stands}
use Rattle.fab_store_rows.proofs.Kept.{seen_has, rows_kept}
use Rattle.fab_store_rows.proofs.makers.ZonesMakerNameMember.stand.Goals as goal

pub returns : goal.returns
returns g c = λ t.
    let other = option_copied c.zone.result in
    rows_kept member_total member_exact (Stands c.args.config.now) (λ k. zone_row c.args.self.now.0 (c.args.key.now, k)) other c.args.items.now (c.has_all.ensures t)
    (λ k h. subst (λ (v : FabricZoning). has v.zones c.args.key.now k ≡ true) c.zoning.ensures (seen_has member_total other (map.get c.zoning.result.now.zones c.args.key.now) k c.zone.ensures h))
