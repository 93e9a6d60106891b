use Rattle.std.proofs.Common.{sym, ap, ◌∙◌}
use Rattle.std.specs.FinSet as set
use Rattle.fab_inventory.specs.fab_names.Orders.{name_cmp}
use Rattle.fab_zoning_rows.specs.Rows.{Rows}
use Rattle.fab_inventory.specs.fab_lemmas.MapsOfSets.{in_tree}
use Rattle.fab_zoning_rows.proofs.RowSets.{contains_seen}
use Rattle.fab_zoning_rows.proofs.rows.ActiveRows.zones_with.Goals as goal

pub returns : goal.returns
returns g c = λ z.
    ap (λ o. in_tree name_cmp o z) c.get.ensures.value
    ∙ sym (sym (ap (λ (r : Rows). set.contains r (z, c.args.member.now)) c.self.view_is) ∙ contains_seen c.self.inside.zones_by_member c.self.invariant.0 z c.args.member.now)
