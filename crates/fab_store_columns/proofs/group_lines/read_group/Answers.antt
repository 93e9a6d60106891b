use Rattle.fab_store_columns.proofs.Refused.{by_host}
use Rattle.fab_store_columns.proofs.group_lines.read_group.Goals as goal

pub returns-in-host : goal.returns-in-host
returns-in-host c = by_host c.args.kind.now c.args.name.now c.args.tenant.now c.args.array.now c.args.exposed.now c.read_host_group.result c.in-host.is c.read_host_group.ensures
