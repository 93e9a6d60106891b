use Rattle.std.proofs.Common.{sym, ap, ◌∙◌}
use Rattle.std.specs.Option.{option_copied}
use Rattle.fab_inventory.specs.fab_names.declared.member.Member.TheVariants as member
use Rattle.fab_inventory.specs.fab_names.Orders.{name_cmp}
use Rattle.fab_inventory.specs.fab_lemmas.MapsOfSets.{in_tree}
use Rattle.fab_zoning_rows.specs.Holding.{has_row}
use Rattle.fab_zoning_rows.proofs.PortMembers.{held_exactly}
use Rattle.fab_zoning_rows.proofs.rows.ActiveRows.zones_of.Goals as goal

pub returns : goal.returns
returns g c z =
    let rows = c.args.self.now in
    held_exactly rows c.args.port.now z (in_tree name_cmp (option_copied c.zones_with.result) z) (in_tree name_cmp (option_copied c.zones_with-2.result) z) (in_tree name_cmp (option_copied c.zones_at.result) z) (in_tree name_cmp (option_copied c.zones_at-2.result) z)
    (sym (c.zones_with.ensures z)) (sym (c.zones_with-2.ensures z))
    (sym (c.zones_at.ensures z ∙ ap (has_row rows z) c.place_member.ensures))
    (sym (c.zones_at-2.ensures z ∙ ap (has_row rows z) c.address_member.ensures))
