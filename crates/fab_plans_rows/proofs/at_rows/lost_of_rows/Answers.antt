use Rattle.std.specs.FinMap as map
use Rattle.fab_plans_rows.specs.Inner.Losses.{RowLacks}
use Rattle.fab_plans_rows.proofs.Firsts.{rows_none, rows_next, rows_last}
use Rattle.fab_plans_rows.proofs.at_rows.lost_of_rows.Goals as goal

pub loop-row-init : goal.loop-row-init
loop-row-init g c = rows_none (RowLacks c.args.inventory.now (map.get c.args.mapping.now.groups))

pub loop-row-preserved : goal.loop-row-preserved
loop-row-preserved g c =
    rows_next (RowLacks c.args.inventory.now (map.get c.args.mapping.now.groups)) c.args.come.now c.loop-row.row-index c.row-item.result c.loop-row.least c.lost_of_row.result c.lesser-least.result c.loop-row-test.true c.row-item.is c.lesser-least.ensures c.loop-row.invariant c.lost_of_row.ensures

pub returns : goal.returns
returns g c = rows_last (RowLacks c.args.inventory.now (map.get c.args.mapping.now.groups)) c.args.come.now c.loop-row.row-index c.loop-row.least c.loop-row-test.false c.loop-row.invariant
