use Rattle.std.proofs.Common.{Contains}
use Rattle.fab_reach_books.specs.Stocks.{IsPortOf, IsHolderOf, IsStockRow}
use Rattle.fab_reach_books.proofs.GivenRows.{listed_from_none}
use Rattle.fab_reach_books.proofs.SetLoops.{adds_both}
use Rattle.fab_reach_books.proofs.told_rows.stock_rows.Goals as goal

pub returns : goal.returns
returns g c =
    let ports = c.args.stock.now.ports.now in
    let holders = c.args.stock.now.holders.now in
    listed_from_none (IsStockRow ports holders) c.new-rows.result.items c.add_holders.new.rows.items c.new-rows.ensures.items
    (adds_both (IsPortOf ports) (IsHolderOf holders) (Contains c.new-rows.result.items) (Contains c.add_ports.new.rows.items) (Contains c.add_holders.new.rows.items) c.in_ok-add_ports.ensures c.in_ok-add_holders.ensures)
