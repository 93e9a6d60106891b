use Rattle.fab_zoning.specs.Edits.{IsIn}
use Rattle.fab_reach_base.proofs.Adding.{before_next, before_last}
use Rattle.fab_reach_moves.proofs.SaidRows.{Says, items_all}
use Rattle.fab_reach_moves.proofs.saying.add_items.Goals as goal

pub loop-row-preserved : goal.loop-row-preserved
loop-row-preserved g c =
    before_next (Says g.S.Saying.says) c.args.rows.now c.loop-row.row-index c.row-item.result (IsIn g.K.Ord.cmp g.X.Ord.cmp c.args.sets.now) (IsIn g.K.Ord.cmp g.X.Ord.cmp c.loop-row.sets) (IsIn g.K.Ord.cmp g.X.Ord.cmp c.add_item.new.sets) c.loop-row-test.true c.row-item.is c.loop-row.invariant
    c.in_ok-add_item.ensures

pub returns : goal.returns
returns g c = items_all g.S.Saying.says c.args.rows.now (IsIn g.K.Ord.cmp g.X.Ord.cmp c.args.sets.now) (IsIn g.K.Ord.cmp g.X.Ord.cmp c.loop-row.sets)
    (before_last (Says g.S.Saying.says) c.args.rows.now c.loop-row.row-index (IsIn g.K.Ord.cmp g.X.Ord.cmp c.args.sets.now) (IsIn g.K.Ord.cmp g.X.Ord.cmp c.loop-row.sets) c.loop-row-test.false c.loop-row.invariant)
