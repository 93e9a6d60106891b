use Rattle.fab_reach_books.proofs.Limits.{shown_more}
use Rattle.fab_reach_books.proofs.limited.show.Goals as goal

pub loop-path-preserved : goal.loop-path-preserved
loop-path-preserved g c = shown_more c.args.paths.now c.loop-path.path-index c.path-item.result c.args.shown.now c.loop-path.shown c.insert.new.self c.loop-path-test.true c.path-item.is c.loop-path.invariant c.in_ok-insert.ensures.updates.0
