use Rattle.std.specs.Option.{option_copied}
use Rattle.fab_store_rows.proofs.Kept.{storage_group_kept}
use Rattle.fab_store_rows.proofs.gathering.add_group_lacking.Goals as goal

pub returns-then-has_storage_group : goal.returns-then-has_storage_group
returns-then-has_storage_group g c = storage_group_kept (option_copied c.args.without) c.args.name.now c.args.group.now c.args.rows.now (c.has_storage_group.ensures.0 c.if-has_storage_group.true)
