use Rattle.std.proofs.Common.{sym, ◌∙◌}
use Rattle.std.specs.Ordering.{nat_cmp}
use Rattle.fab_names.specs.Orders.{name_cmp}
use Rattle.fab_zoning.specs.Edits.{IsIn}
use Rattle.fab_reach_index.proofs.Placed.{exposed_placed, hidden_placed}
use Rattle.fab_reach_index.proofs.indexing.add_exposed.Goals as goal

pub returns-in_ok-add_targets : goal.returns-in_ok-add_targets
returns-in_ok-add_targets g c = exposed_placed (c.args.name, c.args.group.now) (IsIn nat_cmp name_cmp c.args.targeted.now) (IsIn nat_cmp name_cmp c.add_targets.new.targeted) (sym c.is_exposed.ensures ∙ c.if-is_exposed.true) c.in_ok-add_targets.ensures

pub returns-else-is_exposed : goal.returns-else-is_exposed
returns-else-is_exposed g c = hidden_placed (c.args.name, c.args.group.now) (IsIn nat_cmp name_cmp c.args.targeted.now) (sym c.is_exposed.ensures ∙ c.if-is_exposed.false)
