use Rattle.std.proofs.Common.{subst}
use Rattle.fab_names.specs.Orders.{name_cmp, member_cmp}
use Rattle.fab_zoning_rows.specs.fab_lemmas.MapsOfSets.{seen_sets}
use Rattle.fab_zoning.specs.Edits.{HasSome}
use Rattle.fab_zoning.specs.Zonings.{FabricZoning}
use Rattle.fab_zoning.proofs.zoning.Zoning.take_from_zone.Goals as goal

pub returns-clause-some : goal.returns-clause-some
returns-clause-some g c = subst (λ (v : FabricZoning). HasSome v.zones → HasSome (seen_sets name_cmp member_cmp c.take_item.new.sets.entries)) c.self.view_is c.take_item.ensures.some
