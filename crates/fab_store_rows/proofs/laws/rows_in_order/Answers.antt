use Rattle.fab_store_rows.specs.OrderOfRows.{in_order}
use Rattle.fab_store_rows.proofs.laws.rows_in_order.Goals as goal

pub returns : goal.returns
returns c = in_order
