use Rattle.std.proofs.Common.{Some}
use Rattle.fab_store_rows.specs.Gathering.{Lacking}
use Rattle.fab_store_rows.specs.AtKeys.{IsRowAtSome}
use Rattle.fab_store_rows.proofs.RowLists.{filled_listed}
use Rattle.fab_store_rows.proofs.at_keys.rows_at.Goals as goal

pub returns : goal.returns
returns g c =
    filled_listed (Lacking (Some c.args.without.now) (IsRowAtSome c.args.config.now c.args.keys.now.keys)) c.new-rows.result c.add_at_each.new.rows c.in_ok-items.items.items c.new-rows.ensures.empty c.len-count.ensures.ordered c.in_ok-items.ensures c.in_ok-add_at_each.ensures
