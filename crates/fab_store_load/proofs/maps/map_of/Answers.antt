use Rattle.std.proofs.Common.{take, sym, ◌∙◌, subst, arith, rules}
use Rattle.std.specs.BTreeMap.{get}
use Rattle.fab_store_load.specs.Rows.{AreRows, StandsIn}
use Rattle.fab_store_load.proofs.Saying.{one_more, rows_more, rows_still, repeated}
use Rattle.fab_store_load.proofs.maps.map_of.Goals as goal

pub returns-then-not-branch : goal.returns-then-not-branch
returns-then-not-branch g c =
    repeated (g.S.Kind.row_of c.args.kind.now) c.args.rows.now c.loop-row.row-index c.row-item.result c.in-Some.entry.0 c.in-Some.entry.1 (get g.K.Ord.cmp c.loop-row.map) c.loop-row.invariant (omega arith) c.row-item.is (g.met.S.Kind.only c.args.kind.now c.row-item.result c.in-Some.entry (sym c.entry.ensures ∙ c.in-Some.is)) (search rules)

pub loop-row-preserved : goal.loop-row-preserved
loop-row-preserved g c =
    subst (λ xs. AreRows (g.S.Kind.row_of c.args.kind.now) xs (StandsIn (get g.K.Ord.cmp c.put.new.map))) (one_more c.args.rows.now c.loop-row.row-index c.row-item.result (omega arith) c.row-item.is)
    (rows_more (g.S.Kind.said c.args.kind.now) (g.S.Kind.row_of c.args.kind.now) (g.met.S.Kind.says c.args.kind.now) (take c.loop-row.row-index c.args.rows.now) c.row-item.result c.in-Some.entry (StandsIn (get g.K.Ord.cmp c.loop-row.map)) (StandsIn (get g.K.Ord.cmp c.put.new.map)) c.loop-row.invariant (g.met.S.Kind.only c.args.kind.now c.row-item.result c.in-Some.entry (sym c.entry.ensures ∙ c.in-Some.is)) (search rules))

pub loop-row-preserved-in_default : goal.loop-row-preserved-in_default
loop-row-preserved-in_default g c =
    subst (λ xs. AreRows (g.S.Kind.row_of c.args.kind.now) xs (StandsIn (get g.K.Ord.cmp c.loop-row.map))) (one_more c.args.rows.now c.loop-row.row-index c.row-item.result (omega arith) c.row-item.is)
    (rows_still (g.S.Kind.said c.args.kind.now) (g.S.Kind.row_of c.args.kind.now) (g.met.S.Kind.says c.args.kind.now) (take c.loop-row.row-index c.args.rows.now) c.row-item.result (StandsIn (get g.K.Ord.cmp c.loop-row.map)) c.loop-row.invariant (sym c.entry.ensures ∙ c.in_default.is))
