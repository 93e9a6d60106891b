use Rattle.std.proofs.Common.{sym, ap, ◌∙◌, rules}
use Rattle.fab_inventory.specs.fab_names.Orders.{name_cmp}
use Rattle.fab_inventory.specs.fab_lemmas.MapsOfSets.{in_tree}
use Rattle.fab_zoning_rows.specs.Views.{seen_rows}
use Rattle.fab_zoning_rows.proofs.RowSets.{ByMember, contains_seen}
use Rattle.fab_zoning_rows.proofs.RowsTaken.{remove_seen, remove_none}
use Rattle.fab_zoning_rows.proofs.rows.remove_zone.Goals as goal

pub returns-in-Some-clause-was : goal.returns-in-Some-clause-was
returns-in-Some-clause-was g c =
    c.remove.ensures.test ∙ ap (λ o. in_tree name_cmp o c.args.zone.now) c.in-Some.ensures.value ∙ sym (contains_seen c.args.zones_by_member.now c.get_mut.ensures.ordered c.args.zone.now c.args.member.now)

pub returns-in-Some-clause-removed : goal.returns-in-Some-clause-removed
returns-in-Some-clause-removed g c =
    remove_seen c.args.zones_by_member.now (c.get_mut.follows.lender c.remove.new.self) c.args.zone.now c.args.member.now c.in-Some.zones.now c.remove.new.self
    c.get_mut.ensures.ordered (c.get_mut.follows.holds c.remove.new.self).4 (sym c.in-Some.ensures.value)
    c.remove.ensures.updates.0
    ((c.get_mut.follows.holds c.remove.new.self).3 (search rules)).0

pub returns-in-None-clause-was : goal.returns-in-None-clause-was
returns-in-None-clause-was g c =
    sym (contains_seen c.args.zones_by_member.now c.get_mut.ensures.ordered c.args.zone.now c.args.member.now ∙ ap (λ o. in_tree name_cmp o c.args.zone.now) (sym c.in-None.ensures.value))

pub returns-in-None-clause-removed : goal.returns-in-None-clause-removed
returns-in-None-clause-removed g c =
    ap (λ (m : ByMember). seen_rows m.entries) c.get_mut.follows.holds-at-none ∙ remove_none (seen_rows c.args.zones_by_member.now.entries) (c.args.zone.now, c.args.member.now) (sym (returns-in-None-clause-was g c))
