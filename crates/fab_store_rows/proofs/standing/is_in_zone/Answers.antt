use Rattle.std.proofs.Common.{sym, ap, ◌∙◌}
use Rattle.fab_reach_base.proofs.fab_names.OrderLaws.{member_total}
use Rattle.fab_reach_base.specs.fab_lemmas.MapsOfSets.{in_set}
use Rattle.fab_reach_base.proofs.fab_lemmas.SeenSets.{contains_seen}
use Rattle.fab_store_rows.proofs.standing.is_in_zone.Goals as goal

pub returns-in-Some : goal.returns-in-Some
returns-in-Some g c = c.contains.ensures ∙ sym (contains_seen member_total c.in-Some.members.now c.args.member.now) ∙ ap (λ o. in_set o c.args.member.now) c.in-Some.ensures
