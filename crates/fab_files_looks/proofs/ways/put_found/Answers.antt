use Rattle.std.proofs.Common.{ℕ, List, subst}
use Rattle.std.specs.List.{flat_map}
use Rattle.fab_wire_streams.proofs.SentLemmas.{flat-cut}
use Rattle.fab_wire_streams.proofs.Turns.{Gone, gone-cut, gone-more}
use Rattle.fab_files_looks.specs.Ways.{found_line}
use Rattle.fab_files_looks.proofs.ways.put_found.Goals as goal

pub returns-in_default : goal.returns-in_default
returns-in_default g c =
    let s = g.met.S.Sink.laws in
    let line = found_line in
    let xs = c.args.found.now in
    let cut = flat-cut line xs c.loop-shown.shown-index c.shown-item.result c.loop-shown-test.true in
    let here : Gone g.S.Sink.took c.args.sink.now c.loop-shown.sink (flat_map line xs) _ = subst (λ (t : List ℕ). Gone g.S.Sink.took c.args.sink.now c.loop-shown.sink (flat_map line xs) t) cut c.loop-shown.invariant in
    gone-cut s _ _ _ _ _ _ here (rw c.shown-item.is at c.in_default.ensures)

pub loop-shown-preserved : goal.loop-shown-preserved
loop-shown-preserved g c =
    let s = g.met.S.Sink.laws in
    let line = found_line in
    let xs = c.args.found.now in
    let cut = flat-cut line xs c.loop-shown.shown-index c.shown-item.result c.loop-shown-test.true in
    let here : Gone g.S.Sink.took c.args.sink.now c.loop-shown.sink (flat_map line xs) _ = subst (λ (t : List ℕ). Gone g.S.Sink.took c.args.sink.now c.loop-shown.sink (flat_map line xs) t) cut c.loop-shown.invariant in
    gone-more s _ _ _ _ _ _ here (rw c.shown-item.is at c.in-Ok.ensures)
