use Rattle.std.proofs.Common.{◌∙◌}
use Rattle.fab_zoning_rows.specs.Views.{seen_rows}
use Rattle.fab_zoning_rows.proofs.RowsTaken.{count_more}
use Rattle.fab_zoning_rows.proofs.rows.ActiveRows.put.Goals as goal

pub invariant_of-self-2 : goal.invariant_of-self-2
invariant_of-self-2 g c = (
  c.add_zone.ensures.ordered,
  c.one_more-self-inside.ensures
      ∙ count_more (seen_rows c.self.inside.zones_by_member.entries) (seen_rows c.add_zone.new.zones_by_member.entries) (c.args.zone, c.args.member) c.self.inside.count c.in_ok-is_new.is_new c.self.invariant.1 c.in_ok-is_new.ensures.ok c.in_ok-is_new.ensures.is_new,
)
