use Rattle.std.proofs.Common.{sym, ap, ◌∙◌}
use Rattle.fab_reach_base.specs.Records.{zoning_at}
use Rattle.fab_zoning_rows.specs.Holding.{has_row}
use Rattle.fab_reach_moves.proofs.Changed.{held_by_name, held_by_node, held_by_place, held_by_address}
use Rattle.fab_reach_moves.proofs.changes.holds_after.Goals as goal

pub returns-then-has_after : goal.returns-then-has_after
returns-then-has_after g c v gone come d a b = held_by_name (zoning_at v.config c.args.zone.now.0).rows c.args.port.now c.args.zone.now.1 (sym (c.has_after.ensures v gone come d a b) ∙ c.if-has_after.true)

pub returns-then-has_after-2 : goal.returns-then-has_after-2
returns-then-has_after-2 g c v gone come d a b = held_by_node (zoning_at v.config c.args.zone.now.0).rows c.args.port.now c.args.zone.now.1 (sym (c.has_after-2.ensures v gone come d a b) ∙ c.if-has_after-2.true)

pub returns-then-has_after-3 : goal.returns-then-has_after-3
returns-then-has_after-3 g c v gone come d a b =
    let rows = (zoning_at v.config c.args.zone.now.0).rows in
    held_by_place rows c.args.port.now c.args.zone.now.1 (ap (has_row rows c.args.zone.now.1) (sym c.place_member.ensures) ∙ sym (c.has_after-3.ensures v gone come d a b) ∙ c.if-has_after-3.true)

pub returns : goal.returns
returns g c v gone come d a b =
    let rows = (zoning_at v.config c.args.zone.now.0).rows in
    held_by_address rows c.args.port.now c.args.zone.now.1 c.has_after-4.result (sym (c.has_after.ensures v gone come d a b) ∙ c.if-has_after.false) (sym (c.has_after-2.ensures v gone come d a b) ∙ c.if-has_after-2.false)
    (ap (has_row rows c.args.zone.now.1) (sym c.place_member.ensures) ∙ sym (c.has_after-3.ensures v gone come d a b) ∙ c.if-has_after-3.false)
    (c.has_after-4.ensures v gone come d a b ∙ ap (has_row rows c.args.zone.now.1) c.address_member.ensures)
