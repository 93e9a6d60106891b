use Rattle.std.proofs.Common.{ℕ, List, subst}
use Rattle.std.specs.List.{flat_map}
use Rattle.fab_wire_streams.proofs.SentLemmas.{flat-cut}
use Rattle.fab_wire_streams.proofs.Turns.{Gone, gone-cut, gone-more}
use Rattle.fab_files_tries.specs.Plans.{row_line}
use Rattle.fab_files_tries.proofs.plans.put_rows.Goals as goal

pub returns-in_default : goal.returns-in_default
returns-in_default g c =
    let s = g.met.S.Sink.laws in
    let line = row_line c.args.sign.now in
    let xs = c.args.rows.now in
    let cut = flat-cut line xs c.loop-row.row-index c.row-item.result c.loop-row-test.true in
    let here : Gone g.S.Sink.took c.args.sink.now c.loop-row.sink (flat_map line xs) _ = subst (λ (t : List ℕ). Gone g.S.Sink.took c.args.sink.now c.loop-row.sink (flat_map line xs) t) cut c.loop-row.invariant in
    gone-cut s _ _ _ _ _ _ here (rw c.row-item.is at c.in_default.ensures)

pub loop-row-preserved : goal.loop-row-preserved
loop-row-preserved g c =
    let s = g.met.S.Sink.laws in
    let line = row_line c.args.sign.now in
    let xs = c.args.rows.now in
    let cut = flat-cut line xs c.loop-row.row-index c.row-item.result c.loop-row-test.true in
    let here : Gone g.S.Sink.took c.args.sink.now c.loop-row.sink (flat_map line xs) _ = subst (λ (t : List ℕ). Gone g.S.Sink.took c.args.sink.now c.loop-row.sink (flat_map line xs) t) cut c.loop-row.invariant in
    gone-more s _ _ _ _ _ _ here (rw c.row-item.is at c.in-Ok.ensures)
