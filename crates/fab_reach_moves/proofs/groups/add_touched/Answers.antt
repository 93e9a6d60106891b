use Rattle.std.proofs.Common.{IsTrue}
use Rattle.fab_reach_base.proofs.Adding.{before_next, before_last}
use Rattle.std.specs.BTreeSet.{contains}
use Rattle.fab_names.specs.Orders.{name_cmp}
use Rattle.fab_reach_moves.specs.Inner.Naming.{IsTouchedBy}
use Rattle.fab_reach_moves.proofs.Kept.{touched_all}
use Rattle.fab_reach_moves.proofs.groups.add_touched.Goals as goal

pub loop-row-preserved : goal.loop-row-preserved
loop-row-preserved g c =
    before_next (IsTouchedBy c.args.serving.now) c.args.rows.now c.loop-row.row-index c.row-item.result (λ n. IsTrue (contains name_cmp c.args.names.now n)) (λ n. IsTrue (contains name_cmp c.loop-row.names n)) (λ n. IsTrue (contains name_cmp c.add_touched_by.new.names n)) c.loop-row-test.true c.row-item.is c.loop-row.invariant
    (c.in_ok-add_touched_by.ensures)

pub returns : goal.returns
returns g c = touched_all c.args.serving.now c.args.rows.now (λ n. IsTrue (contains name_cmp c.args.names.now n)) (λ n. IsTrue (contains name_cmp c.loop-row.names n))
    (before_last (IsTouchedBy c.args.serving.now) c.args.rows.now c.loop-row.row-index (λ n. IsTrue (contains name_cmp c.args.names.now n)) (λ n. IsTrue (contains name_cmp c.loop-row.names n)) c.loop-row-test.false c.loop-row.invariant)
