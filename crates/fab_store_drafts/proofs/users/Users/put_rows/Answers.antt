use Rattle.fab_store_drafts.proofs.ManyUses.{puts_none, puts_next, puts_last}
use Rattle.fab_store_drafts.proofs.users.Users.put_rows.Goals as goal

pub loop-row-init : goal.loop-row-init
loop-row-init g c = puts_none c.args.rows.now c.args.self.now

pub loop-row-preserved : goal.loop-row-preserved
loop-row-preserved g c = puts_next c.args.rows.now c.loop-row.row-index c.row-item.result c.args.self.now c.loop-row.self c.put_row.new.self c.loop-row-test.true c.row-item.is c.loop-row.invariant c.in_ok-put_row.ensures

pub returns : goal.returns
returns g c = puts_last c.args.rows.now c.loop-row.row-index c.args.self.now c.loop-row.self c.loop-row-test.false c.loop-row.invariant
