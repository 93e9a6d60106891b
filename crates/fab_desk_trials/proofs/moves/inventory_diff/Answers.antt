use Rattle.std.proofs.Common.{refl}
use Rattle.fab_desk_trials.proofs.StockLists.{known_only}
use Rattle.fab_desk_trials.proofs.moves.inventory_diff.Goals as goal

pub returns : goal.returns
returns g c v u k h =
    c.stock_diff.ensures (record { inventory = v; config = k }) (record { inventory = u; config = k }) refl
    (known_only v u c.args.change.now.taken c.stock_of-gone.result.ports.now c.stock_of-gone.result.holders.now c.stock_of-gone.ensures.ports c.stock_of-gone.ensures.holders h.takes)
    (known_only u v c.args.change.now.added c.stock_of-come.result.ports.now c.stock_of-come.result.holders.now c.stock_of-come.ensures.ports c.stock_of-come.ensures.holders h.adds)
