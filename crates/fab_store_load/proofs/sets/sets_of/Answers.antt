use Rattle.std.proofs.Common.{take, sym, ◌∙◌, subst, arith}
use Rattle.fab_reach_base.specs.fab_zoning.Edits.{IsIn}
use Rattle.fab_store_load.specs.Rows.{AreRows}
use Rattle.fab_store_load.proofs.Saying.{one_more, rows_more, rows_still}
use Rattle.fab_store_load.proofs.sets.sets_of.Goals as goal

pub loop-row-preserved : goal.loop-row-preserved
loop-row-preserved g c = record {
  rows = subst (λ xs. AreRows (g.S.Kind.row_of c.args.kind.now) xs (IsIn g.Q.Ord.cmp g.X.Ord.cmp c.put_in_tree.new.sets)) (one_more c.args.rows.now c.loop-row.row-index c.row-item.result (omega arith) c.row-item.is)
      (rows_more (g.S.Kind.said c.args.kind.now) (g.S.Kind.row_of c.args.kind.now) (g.met.S.Kind.says c.args.kind.now) (take c.loop-row.row-index c.args.rows.now) c.row-item.result c.in-Some.entry (IsIn g.Q.Ord.cmp g.X.Ord.cmp c.loop-row.sets) (IsIn g.Q.Ord.cmp g.X.Ord.cmp c.put_in_tree.new.sets) c.loop-row.invariant.rows (g.met.S.Kind.only c.args.kind.now c.row-item.result c.in-Some.entry (sym c.entry.ensures ∙ c.in-Some.is)) c.in_ok-put_in_tree.ensures.puts);
  some = c.in_ok-put_in_tree.ensures.some c.loop-row.invariant.some;
}

pub loop-row-preserved-in_default : goal.loop-row-preserved-in_default
loop-row-preserved-in_default g c = record {
  rows = subst (λ xs. AreRows (g.S.Kind.row_of c.args.kind.now) xs (IsIn g.Q.Ord.cmp g.X.Ord.cmp c.loop-row.sets)) (one_more c.args.rows.now c.loop-row.row-index c.row-item.result (omega arith) c.row-item.is)
      (rows_still (g.S.Kind.said c.args.kind.now) (g.S.Kind.row_of c.args.kind.now) (g.met.S.Kind.says c.args.kind.now) (take c.loop-row.row-index c.args.rows.now) c.row-item.result (IsIn g.Q.Ord.cmp g.X.Ord.cmp c.loop-row.sets) c.loop-row.invariant.rows (sym c.entry.ensures ∙ c.in_default.is));
  some = c.loop-row.invariant.some;
}
