use Rattle.fab_zoning.specs.Edits.{IsIn}
use Rattle.fab_reach_base.specs.Orders.{path_cmp}
use Rattle.fab_reach_base.proofs.Adding.{before_next, before_last}
use Rattle.fab_reach_books.specs.Pairs.{pair_cmp}
use Rattle.fab_reach_pairs.proofs.Going.{OfPath, rows_all}
use Rattle.fab_reach_pairs.proofs.patching.add_rows.Goals as goal

pub loop-path-preserved : goal.loop-path-preserved
loop-path-preserved g c =
    before_next OfPath c.args.paths.now c.loop-path.path-index c.path-item.result (IsIn pair_cmp path_cmp c.args.rows.now) (IsIn pair_cmp path_cmp c.loop-path.rows) (IsIn pair_cmp path_cmp c.add_at.new.sets) c.loop-path-test.true c.path-item.is c.loop-path.invariant
    c.in_ok-add_at.ensures

pub returns : goal.returns
returns g c = rows_all c.args.paths.now (IsIn pair_cmp path_cmp c.args.rows.now) (IsIn pair_cmp path_cmp c.loop-path.rows)
    (before_last OfPath c.args.paths.now c.loop-path.path-index (IsIn pair_cmp path_cmp c.args.rows.now) (IsIn pair_cmp path_cmp c.loop-path.rows) c.loop-path-test.false c.loop-path.invariant)
