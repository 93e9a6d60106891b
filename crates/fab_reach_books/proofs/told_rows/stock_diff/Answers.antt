use Rattle.std.proofs.Common.{sym}
use Rattle.fab_reach_books.proofs.GivenRows.{stock_only}
use Rattle.fab_reach_books.proofs.told_rows.stock_diff.Goals as goal

pub returns : goal.returns
returns g c w v same left new =
    let gone = stock_only w v c.args.gone.now.ports.now c.args.gone.now.holders.now left same c.in_ok-gone.gone.items c.in_ok-gone.ensures in
    let come = stock_only v w c.args.come.now.ports.now c.args.come.now.holders.now new (sym same) c.in_ok-come.come.items c.in_ok-come.ensures in
    record { left = gone.sound; new = come.sound; before = gone.there; after = come.there }
