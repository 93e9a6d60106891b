use Rattle.std.proofs.Common.{◌≡◌, true, sym, ◌∙◌, subst}
use Rattle.std.specs.FinSet as set
use Rattle.std.specs.Option.{option_copied}
use Rattle.fab_reach_base.proofs.fab_names.OrderLaws.{name_total, name_exact}
use Rattle.fab_reach_base.specs.fab_zoning.Zonings.{FabricZoning}
use Rattle.fab_store_rows.specs.Gathering.{active_row}
use Rattle.fab_store_rows.specs.Standing.{Stands}
use Rattle.fab_store_rows.proofs.Kept.{rows_kept}
use Rattle.fab_store_rows.proofs.makers.ActiveZonesMakerMemberName.stand.Goals as goal

pub returns : goal.returns
returns g c = λ t.
    rows_kept name_total name_exact (Stands c.args.config.now) (λ z. active_row c.args.self.now.0 (z, c.args.key.now)) (option_copied c.active_zones_with.result) c.args.items.now (c.has_all.ensures t)
    (λ z h. subst (λ (v : FabricZoning). set.contains v.rows (z, c.args.key.now) ≡ true) c.zoning.ensures (sym (c.active_zones_with.ensures z) ∙ h))
