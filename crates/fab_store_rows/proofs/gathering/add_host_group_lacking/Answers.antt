use Rattle.std.specs.Option.{option_copied}
use Rattle.fab_store_rows.proofs.Kept.{host_group_kept}
use Rattle.fab_store_rows.proofs.gathering.add_host_group_lacking.Goals as goal

pub returns-then-has_host_group : goal.returns-then-has_host_group
returns-then-has_host_group g c = host_group_kept (option_copied c.args.without) c.args.name.now c.args.group.now c.args.rows.now (c.has_host_group.ensures.0 c.if-has_host_group.true)
