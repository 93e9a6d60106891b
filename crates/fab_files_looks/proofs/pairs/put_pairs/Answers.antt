use Rattle.std.proofs.Common.{ℕ, List, subst}
use Rattle.std.specs.List.{flat_map}
use Rattle.fab_wire_streams.proofs.SentLemmas.{flat-cut}
use Rattle.fab_wire_streams.proofs.Turns.{Gone, gone-cut, gone-more}
use Rattle.fab_files_looks.specs.Pairs.{pair_line}
use Rattle.fab_files_looks.proofs.pairs.put_pairs.Goals as goal

pub returns-in_default : goal.returns-in_default
returns-in_default g c =
    let s = g.met.S.Sink.laws in
    let line = pair_line in
    let xs = c.args.pairs.now in
    let cut = flat-cut line xs c.loop-pair.pair-index c.pair-item.result c.loop-pair-test.true in
    let here : Gone g.S.Sink.took c.args.sink.now c.loop-pair.sink (flat_map line xs) _ = subst (λ (t : List ℕ). Gone g.S.Sink.took c.args.sink.now c.loop-pair.sink (flat_map line xs) t) cut c.loop-pair.invariant in
    gone-cut s _ _ _ _ _ _ here (rw c.pair-item.is at c.in_default.ensures)

pub loop-pair-preserved : goal.loop-pair-preserved
loop-pair-preserved g c =
    let s = g.met.S.Sink.laws in
    let line = pair_line in
    let xs = c.args.pairs.now in
    let cut = flat-cut line xs c.loop-pair.pair-index c.pair-item.result c.loop-pair-test.true in
    let here : Gone g.S.Sink.took c.args.sink.now c.loop-pair.sink (flat_map line xs) _ = subst (λ (t : List ℕ). Gone g.S.Sink.took c.args.sink.now c.loop-pair.sink (flat_map line xs) t) cut c.loop-pair.invariant in
    gone-more s _ _ _ _ _ _ here (rw c.pair-item.is at c.in-Ok.ensures)
