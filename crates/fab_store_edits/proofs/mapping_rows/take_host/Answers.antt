use Rattle.std.proofs.Common.{None, Some, inl, inr, subst}
use Rattle.fab_reach_base.specs.fab_mapping_base.Groups.{HostGroupRows}
use Rattle.fab_store_edits.specs.Inner.MappingEdits.{HostsBecome}
use Rattle.fab_store_edits.proofs.Becoming.{hosts_out, hosts_back}
use Rattle.fab_store_edits.proofs.mapping_rows.take_host.Goals as goal

pub returns-in_default : goal.returns-in_default
returns-in_default g c = inr (hosts_out c.args.mapping.now c.take_host_group.new.self c.args.name.now None c.in_default.ensures.was c.take_host_group.ensures.ok)

pub returns : goal.returns
returns g c = inl (
  c.in-Some.own,
  subst (λ (x : HostGroupRows). HostsBecome c.args.name.now (Some c.in-Some.own) (Some x) c.args.mapping.now c.restore_host_group.new.self) c.take_host.ensures
      (hosts_back c.args.mapping.now c.take_host_group.new.self c.restore_host_group.new.self c.args.name.now (Some c.in-Some.own) c.take_host.new.self c.in-Some.ensures.was c.take_host_group.ensures.ok c.in_ok-restore_host_group.ensures.ok),
)
