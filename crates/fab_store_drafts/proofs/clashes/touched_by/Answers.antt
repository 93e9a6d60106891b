use Rattle.fab_store_drafts.proofs.Gathering.{touched_none, touched_next, touched_last}
use Rattle.fab_store_drafts.proofs.clashes.touched_by.Goals as goal

pub loop-row-init : goal.loop-row-init
loop-row-init g c = touched_none c.args.config.now.mapping c.args.rows.now c.new-touched.result c.new-touched.ensures.empty

pub loop-row-preserved : goal.loop-row-preserved
loop-row-preserved g c = touched_next c.args.config.now.mapping c.args.rows.now c.loop-row.row-index c.row-item.result c.loop-row.touched c.add_touched.new.touched c.loop-row-test.true c.row-item.is c.loop-row.invariant c.in_ok-add_touched.ensures

pub returns : goal.returns
returns g c = touched_last c.args.config.now.mapping c.args.rows.now c.loop-row.row-index c.loop-row.touched c.loop-row-test.false c.loop-row.invariant
