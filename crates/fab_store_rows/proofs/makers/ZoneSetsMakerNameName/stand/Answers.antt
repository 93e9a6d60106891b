use Rattle.std.proofs.Common.{◌≡◌, true, subst}
use Rattle.std.specs.FinMap as map
use Rattle.std.specs.Option.{option_copied}
use Rattle.fab_reach_base.proofs.fab_names.OrderLaws.{name_total, name_exact}
use Rattle.fab_reach_base.specs.fab_lemmas.MapsOfSets.{has}
use Rattle.fab_reach_base.specs.fab_zoning.Zonings.{FabricZoning}
use Rattle.fab_store_rows.specs.Gathering.{set_row}
use Rattle.fab_store_rows.specs.Standing.{Stands}
use Rattle.fab_store_rows.proofs.Kept.{seen_has, rows_kept}
use Rattle.fab_store_rows.proofs.makers.ZoneSetsMakerNameName.stand.Goals as goal

pub returns : goal.returns
returns g c = λ t.
    let other = option_copied c.zone_set.result in
    rows_kept name_total name_exact (Stands c.args.config.now) (λ k. set_row c.args.self.now.0 (c.args.key.now, k)) other c.args.items.now (c.has_all.ensures t)
    (λ k h. subst (λ (v : FabricZoning). has v.sets c.args.key.now k ≡ true) c.zoning.ensures (seen_has name_total other (map.get c.zoning.result.now.sets c.args.key.now) k c.zone_set.ensures h))
