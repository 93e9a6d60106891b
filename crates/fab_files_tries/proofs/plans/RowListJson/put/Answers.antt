use Rattle.std.proofs.Common.{ℕ, List, [], ◌∷◌, subst}
use Rattle.fab_wire_streams.specs.JsonText.{json_text}
use Rattle.fab_wire_streams.specs.Values.{list_data}
use Rattle.fab_wire_streams.proofs.Turns.{Gone, gone-first, gone-more, gone-cut, gone-last}
use Rattle.fab_wire_streams.proofs.Texts.{array-parts, items-cut, items-done}
use Rattle.fab_files_tries.specs.Plans.{row_data}
use Rattle.fab_files_tries.proofs.plans.RowListJson.put.Goals as goal

pub returns-in_default-clause-text : goal.returns-in_default-clause-text
returns-in_default-clause-text g c = let s = g.met.S.Sink.laws in rw array-parts (s.early _ _ _ _ c.in_default.ensures)

pub loop-row-init : goal.loop-row-init
loop-row-init g c = let s = g.met.S.Sink.laws in rw array-parts (gone-first s _ _ _ _ c.in-Ok.ensures)

pub returns-in_default-put_next-clause-text : goal.returns-in_default-put_next-clause-text
returns-in_default-put_next-clause-text g c =
    let s = g.met.S.Sink.laws in
    let xs = c.args.self.now.0.now in
    let cut = items-cut row_data c.loop-row.later xs c.loop-row.row-index c.row-item.result c.loop-row-test.true in
    let here : Gone g.S.Sink.took c.args.sink.now c.loop-row.sink (json_text (list_data row_data xs)) _ = subst (λ (t : List ℕ). Gone g.S.Sink.took c.args.sink.now c.loop-row.sink (json_text (list_data row_data xs)) t) cut c.loop-row.invariant in
    gone-cut s _ _ _ _ _ _ here (rw c.row-item.is at c.in_default-put_next.ensures)

pub loop-row-preserved : goal.loop-row-preserved
loop-row-preserved g c =
    let s = g.met.S.Sink.laws in
    let xs = c.args.self.now.0.now in
    let cut = items-cut row_data c.loop-row.later xs c.loop-row.row-index c.row-item.result c.loop-row-test.true in
    let here : Gone g.S.Sink.took c.args.sink.now c.loop-row.sink (json_text (list_data row_data xs)) _ = subst (λ (t : List ℕ). Gone g.S.Sink.took c.args.sink.now c.loop-row.sink (json_text (list_data row_data xs)) t) cut c.loop-row.invariant in
    gone-more s _ _ _ _ _ _ here (rw c.row-item.is at c.in-Ok-put_next.ensures)

pub returns-clause-text : goal.returns-clause-text
returns-clause-text g c =
    let s = g.met.S.Sink.laws in
    let xs = c.args.self.now.0.now in
    let done = items-done row_data c.loop-row.later xs c.loop-row.row-index c.loop-row-test.false in
    let here : Gone g.S.Sink.took c.args.sink.now c.loop-row.sink (json_text (list_data row_data xs)) (93 ∷ []) = subst (λ (t : List ℕ). Gone g.S.Sink.took c.args.sink.now c.loop-row.sink (json_text (list_data row_data xs)) t) done c.loop-row.invariant in
    gone-last s c.take-2.result _ _ _ _ _ here c.take-2.ensures
