use Rattle.std.proofs.Common.{Some, subst}
use Rattle.fab_reach_base.specs.fab_mapping_base.Groups.{HostGroupRows}
use Rattle.fab_store_edits.specs.Inner.MappingEdits.{HostsBecome}
use Rattle.fab_store_edits.proofs.Becoming.{hosts_back}
use Rattle.fab_store_edits.proofs.mapping_rows.put_host.Goals as goal

pub returns-clause-put : goal.returns-clause-put
returns-clause-put g c e = record {
  was = c.in-Some.own;
  is = subst (λ (x : HostGroupRows). HostsBecome c.args.name.now (Some c.in-Some.own) (Some x) c.args.mapping.now c.restore_host_group.new.self) c.in_ok-put_host.ensures.ok
      (hosts_back c.args.mapping.now c.take_host_group.new.self c.restore_host_group.new.self c.args.name.now (Some c.in-Some.own) c.put_host.new.self c.in-Some.ensures.was c.take_host_group.ensures.ok c.in_ok-restore_host_group.ensures.ok);
}
