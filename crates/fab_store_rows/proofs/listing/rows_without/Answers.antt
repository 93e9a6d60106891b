use Rattle.std.specs.Option.{option_copied}
use Rattle.fab_store_rows.specs.Gathering.{Lacking}
use Rattle.fab_store_rows.specs.Standing.{Stands}
use Rattle.fab_store_rows.proofs.RowLists.{filled_listed}
use Rattle.fab_store_rows.proofs.listing.rows_without.Goals as goal

pub returns : goal.returns
returns g c =
    filled_listed (Lacking (option_copied c.args.without) (Stands c.args.config.now)) c.new-rows.result c.add_all.new.rows c.in_ok-items.items.items c.new-rows.ensures.empty c.len-count.ensures.ordered c.in_ok-items.ensures c.in_ok-add_all.ensures
