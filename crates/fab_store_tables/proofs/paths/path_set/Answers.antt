use Rattle.std.proofs.Common.{arith}
use Rattle.fab_reach_base.proofs.Adding.{before_next, before_last}
use Rattle.fab_reach_base.proofs.Gathering.{adds_path, filled}
use Rattle.fab_reach_base.specs.Orders.{Has}
use Rattle.fab_store_tables.proofs.PathsAdded.{path_added}
use Rattle.fab_store_tables.specs.Paths.{ShowsPathOf, IsPathOf}
use Rattle.fab_store_tables.proofs.paths.path_set.Goals as goal

pub loop-line-preserved : goal.loop-line-preserved
loop-line-preserved g c =
    let i = c.loop-line.invariant in
    let added = path_added c.line-item.result c.in-Some.row (Has c.loop-line.paths) (Has c.insert.new.self) c.in-Some.ensures (adds_path c.loop-line.paths c.insert.new.self c.in-Some.row.path c.in_ok-insert.ensures.updates.0) in
    (i.0, i.1, before_next ShowsPathOf c.args.lines.now c.loop-line.line-index c.line-item.result (Has i.0) (Has c.loop-line.paths) (Has c.insert.new.self) (omega arith) c.line-item.is i.2 added)

pub returns : goal.returns
returns g c =
    let i = c.loop-line.invariant in
    filled (IsPathOf c.args.lines.now) i.0 c.loop-line.paths i.1 (before_last ShowsPathOf c.args.lines.now c.loop-line.line-index (Has i.0) (Has c.loop-line.paths) (omega arith) i.2)
