use Rattle.std.proofs.Common.{sym, ap, ◌∙◌}
use Rattle.std.specs.FinSet as set
use Rattle.fab_inventory.specs.fab_names.Orders.{name_cmp}
use Rattle.fab_zoning_rows.specs.Rows.{Rows}
use Rattle.fab_inventory.specs.fab_lemmas.MapsOfSets.{in_tree}
use Rattle.fab_zoning_rows.proofs.RowSets.{contains_seen}
use Rattle.fab_zoning_rows.proofs.rows.ActiveRows.contains.Goals as goal

pub returns-in-Some : goal.returns-in-Some
returns-in-Some g c =
    c.contains.ensures ∙ ap (λ o. in_tree name_cmp o c.args.zone.now) c.in-Some.ensures.value
    ∙ sym (sym (ap (λ (r : Rows). set.contains r (c.args.zone.now, c.args.member.now)) c.self.view_is) ∙ contains_seen c.self.inside.zones_by_member c.self.invariant.0 c.args.zone.now c.args.member.now)

pub returns-in-None : goal.returns-in-None
returns-in-None g c =
    ap (λ o. in_tree name_cmp o c.args.zone.now) c.in-None.ensures.value
    ∙ sym (sym (ap (λ (r : Rows). set.contains r (c.args.zone.now, c.args.member.now)) c.self.view_is) ∙ contains_seen c.self.inside.zones_by_member c.self.invariant.0 c.args.zone.now c.args.member.now)
