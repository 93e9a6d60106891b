use Rattle.std.specs.Option.{option_copied}
use Rattle.fab_store_rows.proofs.RowsGathered.{row_added}
use Rattle.fab_store_rows.proofs.gathering.add_row.Goals as goal

pub returns-in_ok-insert : goal.returns-in_ok-insert
returns-in_ok-insert g c = row_added (option_copied c.args.without) c.args.rows.now c.insert.new.self c.args.row (c.is_missing.ensures.0 c.if-is_missing.true) c.in_ok-insert.ensures.updates.0
