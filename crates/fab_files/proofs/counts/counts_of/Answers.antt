use Rattle.std.proofs.Common.{◌∙◌, ap}
use Rattle.fab_files.specs.Counting.{one_more}
use Rattle.fab_files.proofs.Counted.{counted_more}
use Rattle.fab_files.proofs.counts.counts_of.Goals as goal

pub loop-path-preserved : goal.loop-path-preserved
loop-path-preserved g c =
    let i = c.loop-path.path-index in
    let d = c.path-item.result in
    counted_more c.args.paths.now i d c.loop-path-test.true c.loop-path.counts c.insert.new.self c.loop-path.invariant c.with.result
    (rw (← c.path-item.is) (c.with.ensures ∙ ap (one_more d.fabric) c.counted-before.ensures))
    (rw (← c.path-item.is) c.in_ok-insert.ensures.updates) c.in_ok-insert.ensures.ordered
