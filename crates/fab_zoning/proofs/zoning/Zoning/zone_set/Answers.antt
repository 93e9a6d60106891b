use Rattle.std.proofs.Common.{sym, ap, ◌∙◌}
use Rattle.std.specs.Option.{option_map}
use Rattle.std.specs.FinMap as map
use Rattle.fab_names.specs.Orders.{name_cmp}
use Rattle.fab_names.proofs.OrderLaws.{name_total}
use Rattle.fab_zoning_rows.specs.fab_lemmas.MapsOfSets.{seen_set}
use Rattle.fab_zoning_rows.proofs.fab_lemmas.MapsOfSets.{get_seen}
use Rattle.fab_zoning.specs.Zonings.{FabricZoning}
use Rattle.fab_zoning.proofs.zoning.Zoning.zone_set.Goals as goal

pub returns : goal.returns
returns g c =
    ap (option_map (seen_set name_cmp)) c.get.ensures.value ∙ sym (get_seen name_cmp name_total c.self.inside.sets c.args.name.now)
    ∙ ap (λ (v : FabricZoning). map.get v.sets c.args.name.now) c.self.view_is
