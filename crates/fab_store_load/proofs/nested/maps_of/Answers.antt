use Rattle.std.proofs.Common.{take, sym, ◌∙◌, subst, arith, rules}
use Rattle.fab_store_load.specs.Rows.{AreRows, IsAt, at}
use Rattle.fab_store_load.proofs.Saying.{one_more, rows_more, rows_still, repeated}
use Rattle.fab_store_load.proofs.nested.maps_of.Goals as goal

pub returns-then-not-branch-clause-rows : goal.returns-then-not-branch-clause-rows
returns-then-not-branch-clause-rows g c =
    repeated (g.S.Kind.row_of c.args.kind.now) c.args.rows.now c.loop-row.row-index c.row-item.result c.in-Some.entry.0 c.in-Some.entry.1 (at g.Q.Ord.cmp g.K.Ord.cmp c.loop-row.maps) c.loop-row.invariant.rows (omega arith) c.row-item.is (g.met.S.Kind.only c.args.kind.now c.row-item.result c.in-Some.entry (sym c.entry.ensures ∙ c.in-Some.is)) (search rules)

pub loop-row-preserved : goal.loop-row-preserved
loop-row-preserved g c = record {
  rows = subst (λ xs. AreRows (g.S.Kind.row_of c.args.kind.now) xs (IsAt g.Q.Ord.cmp g.K.Ord.cmp c.put_under.new.maps)) (one_more c.args.rows.now c.loop-row.row-index c.row-item.result (omega arith) c.row-item.is)
      (rows_more (g.S.Kind.said c.args.kind.now) (g.S.Kind.row_of c.args.kind.now) (g.met.S.Kind.says c.args.kind.now) (take c.loop-row.row-index c.args.rows.now) c.row-item.result c.in-Some.entry (IsAt g.Q.Ord.cmp g.K.Ord.cmp c.loop-row.maps) (IsAt g.Q.Ord.cmp g.K.Ord.cmp c.put_under.new.maps) c.loop-row.invariant.rows (g.met.S.Kind.only c.args.kind.now c.row-item.result c.in-Some.entry (sym c.entry.ensures ∙ c.in-Some.is)) (search rules));
  some = search rules;
}

pub loop-row-preserved-in_default : goal.loop-row-preserved-in_default
loop-row-preserved-in_default g c = record {
  rows = subst (λ xs. AreRows (g.S.Kind.row_of c.args.kind.now) xs (IsAt g.Q.Ord.cmp g.K.Ord.cmp c.loop-row.maps)) (one_more c.args.rows.now c.loop-row.row-index c.row-item.result (omega arith) c.row-item.is)
      (rows_still (g.S.Kind.said c.args.kind.now) (g.S.Kind.row_of c.args.kind.now) (g.met.S.Kind.says c.args.kind.now) (take c.loop-row.row-index c.args.rows.now) c.row-item.result (IsAt g.Q.Ord.cmp g.K.Ord.cmp c.loop-row.maps) c.loop-row.invariant.rows (sym c.entry.ensures ∙ c.in_default.is));
  some = c.loop-row.invariant.some;
}
