use Rattle.std.proofs.Common.{Some, refl, ◌∙◌, subst}
use Rattle.std.specs.FinMap as map
use Rattle.fab_reach_base.specs.fab_mapping_base.Groups.{HostGroupRows}
use Rattle.fab_store_edits.specs.Inner.MappingEdits.{HostsBecome}
use Rattle.fab_store_edits.proofs.Answering.{on_ok}
use Rattle.fab_store_edits.proofs.Becoming.{hosts_back}
use Rattle.fab_store_edits.proofs.mapping_rows.put_host_head.Goals as goal

pub returns : goal.returns
returns g c =
    let n = c.args.row.now.name in
    let v = c.args.mapping.now in
    on_ok c.restore_host_group.result
    (λ ok. subst (λ (x : HostGroupRows). HostsBecome n (map.get v.host_groups n) (Some x) v c.restore_host_group.new.self) (c.set_tenant.ensures ∙ c.hosts_of-group.ensures.group)
    (hosts_back v c.hosts_of-group.new.mapping c.restore_host_group.new.self n (map.get v.host_groups n) c.set_tenant.new.self refl c.hosts_of-group.ensures.rest ok))
    c.restore_host_group.ensures.ok
