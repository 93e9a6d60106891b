use Rattle.std.proofs.Common.{sym, subst}
use Rattle.fab_store_rows.specs.declared.config_row.StoragePart.TheVariants as part
use Rattle.fab_store_edits.specs.Inner.MappingEdits.{PutsPart}
use Rattle.fab_store_edits.proofs.PartMoves.{hosts_put, target_put}
use Rattle.fab_store_edits.proofs.mapping_rows.put_part_in.Goals as goal

pub returns-in_ok-put_hosts-in-HostGroup-clause-put : goal.returns-in_ok-put_hosts-in-HostGroup-clause-put
returns-in_ok-put_hosts-in-HostGroup-clause-put g c e =
    rw c.in-HostGroup.is (subst (PutsPart (part.HostGroup c.in-HostGroup.hosts) c.args.group.now) (sym c.in_ok-put_hosts-in-HostGroup.ensures.ok) (hosts_put c.args.group.now c.in-HostGroup.hosts))

pub returns-in_ok-put_target-in-Target-clause-put : goal.returns-in_ok-put_target-in-Target-clause-put
returns-in_ok-put_target-in-Target-clause-put g c e =
    rw c.in-Target.is (subst (PutsPart (part.Target c.in-Target.target) c.args.group.now) (sym c.in_ok-put_target-in-Target.ensures.ok) (target_put c.args.group.now c.in-Target.target))
