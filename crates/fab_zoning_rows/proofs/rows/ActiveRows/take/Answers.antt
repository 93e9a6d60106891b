use Rattle.std.proofs.Common.{◌∙◌, sym, arith}
use Rattle.fab_zoning_rows.specs.Views.{seen_rows}
use Rattle.fab_zoning_rows.proofs.RowsTaken.{counts_one, count_less, count_same}
use Rattle.fab_zoning_rows.proofs.rows.ActiveRows.take.Goals as goal

pub overflow_sub-self : goal.overflow_sub-self
overflow_sub-self g c = counts_one (seen_rows c.self.inside.zones_by_member.entries) (c.args.zone.now, c.args.member.now) c.self.inside.count c.self.invariant.1 (sym c.if-remove_zone.true ∙ c.remove_zone.ensures.was)

pub invariant_of-self : goal.invariant_of-self
invariant_of-self g c = (
  c.remove_zone.ensures.ordered,
  count_less (seen_rows c.self.inside.zones_by_member.entries) (seen_rows c.remove_zone.new.zones_by_member.entries) (c.args.zone.now, c.args.member.now) c.self.inside.count c.self.invariant.1 (let few = c.if-self-le-MOST_ROWS.true in omega (arith, few)) c.remove_zone.ensures.removed
      (sym c.if-remove_zone.true ∙ c.remove_zone.ensures.was),
)

pub invariant_of-self-else-remove_zone : goal.invariant_of-self-else-remove_zone
invariant_of-self-else-remove_zone g c = (
  c.remove_zone.ensures.ordered,
  count_same (seen_rows c.self.inside.zones_by_member.entries) (seen_rows c.remove_zone.new.zones_by_member.entries) (c.args.zone.now, c.args.member.now) c.self.inside.count c.self.invariant.1 c.remove_zone.ensures.removed (sym c.if-remove_zone.false ∙ c.remove_zone.ensures.was),
)
