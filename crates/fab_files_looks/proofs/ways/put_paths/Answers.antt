use Rattle.std.proofs.Common.{ℕ, List, subst}
use Rattle.std.specs.List.{flat_map}
use Rattle.fab_wire_streams.proofs.SentLemmas.{flat-cut}
use Rattle.fab_wire_streams.proofs.Turns.{Gone, gone-cut, gone-more}
use Rattle.fab_files_looks.specs.Ways.{path_line}
use Rattle.fab_files_looks.proofs.ways.put_paths.Goals as goal

pub returns-in_default : goal.returns-in_default
returns-in_default g c =
    let s = g.met.S.Sink.laws in
    let line = path_line in
    let xs = c.args.paths.now in
    let cut = flat-cut line xs c.loop-path.path-index c.path-item.result c.loop-path-test.true in
    let here : Gone g.S.Sink.took c.args.sink.now c.loop-path.sink (flat_map line xs) _ = subst (λ (t : List ℕ). Gone g.S.Sink.took c.args.sink.now c.loop-path.sink (flat_map line xs) t) cut c.loop-path.invariant in
    gone-cut s _ _ _ _ _ _ here (rw c.path-item.is at c.in_default.ensures)

pub loop-path-preserved : goal.loop-path-preserved
loop-path-preserved g c =
    let s = g.met.S.Sink.laws in
    let line = path_line in
    let xs = c.args.paths.now in
    let cut = flat-cut line xs c.loop-path.path-index c.path-item.result c.loop-path-test.true in
    let here : Gone g.S.Sink.took c.args.sink.now c.loop-path.sink (flat_map line xs) _ = subst (λ (t : List ℕ). Gone g.S.Sink.took c.args.sink.now c.loop-path.sink (flat_map line xs) t) cut c.loop-path.invariant in
    gone-more s _ _ _ _ _ _ here (rw c.path-item.is at c.in-Ok.ensures)
