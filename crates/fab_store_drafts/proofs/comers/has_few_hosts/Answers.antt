use Rattle.std.proofs.Common.{sym, ◌∙◌}
use Rattle.std.specs.FinSet as set
use Rattle.fab_reach_base.proofs.fab_names.OrderLaws.{name_total}
use Rattle.fab_reach_base.specs.fab_mapping_base.declared.limits.TheConstants.{MOST_HOSTS}
use Rattle.fab_store_drafts.proofs.Counted.{is_few, set_counted}
use Rattle.fab_store_drafts.proofs.comers.has_few_hosts.Goals as goal

pub returns-in-Some : goal.returns-in-Some
returns-in-Some g c =
    let s = c.in-Some.group.now.hosts in
    rw c.in-Some.is (is_few c.len.result (set.len s) MOST_HOSTS (c.len.ensures.value ∙ sym (set_counted name_total c.hosts.result s c.hosts.ensures.hosts c.hosts.ensures.ordered)))
