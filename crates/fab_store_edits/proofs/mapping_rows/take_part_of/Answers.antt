use Rattle.std.proofs.Common.{sym, subst}
use Rattle.fab_store_rows.specs.declared.config_row.StoragePart.TheVariants as part
use Rattle.fab_store_edits.specs.Inner.MappingEdits.{TakesPart}
use Rattle.fab_store_edits.proofs.PartMoves.{hosts_taken, target_taken}
use Rattle.fab_store_edits.proofs.mapping_rows.take_part_of.Goals as goal

pub returns-in-HostGroup : goal.returns-in-HostGroup
returns-in-HostGroup g c = rw c.in-HostGroup.is (subst (TakesPart (part.HostGroup c.in-HostGroup.hosts) c.args.group.now) (sym c.remove_hosts.ensures) (hosts_taken c.args.group.now c.in-HostGroup.hosts))

pub returns-in-Target : goal.returns-in-Target
returns-in-Target g c = rw c.in-Target.is (subst (TakesPart (part.Target c.in-Target.target) c.args.group.now) (sym c.remove_target.ensures) (target_taken c.args.group.now c.in-Target.target))
