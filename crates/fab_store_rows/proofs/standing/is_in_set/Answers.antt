use Rattle.std.proofs.Common.{sym, ap, ◌∙◌}
use Rattle.fab_reach_base.proofs.fab_names.OrderLaws.{name_total}
use Rattle.fab_reach_base.specs.fab_lemmas.MapsOfSets.{in_set}
use Rattle.fab_reach_base.proofs.fab_lemmas.SeenSets.{contains_seen}
use Rattle.fab_store_rows.proofs.standing.is_in_set.Goals as goal

pub returns-in-Some : goal.returns-in-Some
returns-in-Some g c = c.contains.ensures ∙ sym (contains_seen name_total c.in-Some.zones.now c.args.zone.now) ∙ ap (λ o. in_set o c.args.zone.now) c.in-Some.ensures
