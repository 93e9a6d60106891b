use Rattle.fab_store_rows.proofs.RowLists.{all_listed}
use Rattle.fab_store_rows.proofs.listing.config_rows.Goals as goal

pub returns : goal.returns
returns g c = all_listed c.args.config.now c.in_ok-items.items.items c.in_ok-items.ensures
