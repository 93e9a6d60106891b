use Rattle.std.proofs.Common.{ℕ, List, subst}
use Rattle.std.specs.List.{flat_map}
use Rattle.fab_wire_streams.proofs.SentLemmas.{flat-cut}
use Rattle.fab_wire_streams.proofs.Turns.{Gone, gone-cut, gone-more}
use Rattle.fab_files_looks.specs.Reachers.{next_text}
use Rattle.fab_files_looks.proofs.reachers.put_rest.Goals as goal

pub returns-in_default : goal.returns-in_default
returns-in_default g c =
    let s = g.met.S.Sink.laws in
    let line = next_text in
    let xs = c.args.names.now in
    let cut = flat-cut line xs c.loop-name.name-index c.name-item.result c.loop-name-test.true in
    let here : Gone g.S.Sink.took c.args.sink.now c.loop-name.sink (flat_map line xs) _ = subst (λ (t : List ℕ). Gone g.S.Sink.took c.args.sink.now c.loop-name.sink (flat_map line xs) t) cut c.loop-name.invariant in
    gone-cut s _ _ _ _ _ _ here (rw c.name-item.is at c.in_default.ensures)

pub loop-name-preserved : goal.loop-name-preserved
loop-name-preserved g c =
    let s = g.met.S.Sink.laws in
    let line = next_text in
    let xs = c.args.names.now in
    let cut = flat-cut line xs c.loop-name.name-index c.name-item.result c.loop-name-test.true in
    let here : Gone g.S.Sink.took c.args.sink.now c.loop-name.sink (flat_map line xs) _ = subst (λ (t : List ℕ). Gone g.S.Sink.took c.args.sink.now c.loop-name.sink (flat_map line xs) t) cut c.loop-name.invariant in
    gone-more s _ _ _ _ _ _ here (rw c.name-item.is at c.in-Ok.ensures)
