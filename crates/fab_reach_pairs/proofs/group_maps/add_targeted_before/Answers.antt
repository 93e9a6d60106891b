use Rattle.std.proofs.Common.{sym, ◌∙◌}
use mathlib.Core.Bool.{true≢false}
use Rattle.std.specs.Ordering.{nat_cmp}
use Rattle.fab_names.specs.Orders.{name_cmp}
use Rattle.fab_zoning.specs.Edits.{IsIn}
use Rattle.fab_reach_base.specs.Views.{seen}
use Rattle.fab_reach_pairs.proofs.GroupsGathered.{targeted_adds, targeted_none}
use Rattle.fab_reach_pairs.proofs.group_maps.add_targeted_before.Goals as goal

pub returns-in_ok-add_under : goal.returns-in_ok-add_under
returns-in_ok-add_under g c = targeted_adds (seen c.args.before.now) c.args.name.now c.in_ok-keys.keys (IsIn nat_cmp name_cmp c.args.groups.now) (IsIn nat_cmp name_cmp c.add_under.new.sets) (c.is_exposed_before.ensures.0 c.if-is_exposed_before.true) c.in_ok-keys.ensures c.in_ok-add_under.ensures

pub returns-else-is_exposed_before : goal.returns-else-is_exposed_before
returns-else-is_exposed_before g c = targeted_none (seen c.args.before.now) c.args.name.now (IsIn nat_cmp name_cmp c.args.groups.now) (λ x. true≢false (sym (c.is_exposed_before.ensures.1 x) ∙ c.if-is_exposed_before.false))
