use Rattle.std.proofs.Common.{length, sym, ap, ◌∙◌}
use Rattle.std.specs.Cmp.{nat_cmp_total}
use Rattle.std.specs.FinMap as map
use Rattle.std.specs.FinSet as set
use Rattle.fab_reach_base.proofs.fab_names.OrderLaws.{name_total}
use Rattle.fab_reach_base.specs.fab_mapping_base.declared.limits.TheConstants.{MOST_GROUPS_SERVED, MOST_TARGETS, MOST_UNITS}
use Rattle.fab_store_drafts.proofs.Counted.{is_few, set_counted}
use Rattle.fab_store_drafts.proofs.comers.has_few_like.Goals as goal

pub returns-in-HostGroup : goal.returns-in-HostGroup
returns-in-HostGroup g c =
    let s = c.args.group.now.host_groups in
    rw c.in-HostGroup.is (is_few c.len.result (set.len s) MOST_GROUPS_SERVED (c.len.ensures.value ∙ sym (set_counted name_total c.host_groups.result s c.host_groups.ensures.host_groups c.host_groups.ensures.ordered)))

pub returns-in-Target : goal.returns-in-Target
returns-in-Target g c =
    let s = c.args.group.now.targets in
    rw c.in-Target.is (is_few c.len-in-Target.result (set.len s) MOST_TARGETS (c.len-in-Target.ensures.value ∙ sym (set_counted nat_cmp_total c.targets.result s c.targets.ensures.targets c.targets.ensures.ordered)))

pub returns-in-Unit : goal.returns-in-Unit
returns-in-Unit g c =
    let m = c.args.group.now.units in
    rw c.in-Unit.is (is_few c.len-in-Unit.result (map.len m) MOST_UNITS (c.len-in-Unit.ensures.value ∙ ap length c.units.ensures ∙ sym (map.len-entries m)))
