use Rattle.std.proofs.Common.{ℕ, List, subst}
use Rattle.std.specs.List.{flat_map}
use Rattle.fab_wire_streams.proofs.SentLemmas.{flat-cut}
use Rattle.fab_wire_streams.proofs.Turns.{Gone, gone-cut, gone-more}
use Rattle.fab_files_looks.specs.Reachers.{reacher_line}
use Rattle.fab_files_looks.proofs.reachers.put_reachers.Goals as goal

pub returns-in_default : goal.returns-in_default
returns-in_default g c =
    let s = g.met.S.Sink.laws in
    let line = reacher_line in
    let xs = c.args.reachers.now in
    let cut = flat-cut line xs c.loop-reacher.reacher-index c.reacher-item.result c.loop-reacher-test.true in
    let here : Gone g.S.Sink.took c.args.sink.now c.loop-reacher.sink (flat_map line xs) _ = subst (λ (t : List ℕ). Gone g.S.Sink.took c.args.sink.now c.loop-reacher.sink (flat_map line xs) t) cut c.loop-reacher.invariant in
    gone-cut s _ _ _ _ _ _ here (rw c.reacher-item.is at c.in_default.ensures)

pub loop-reacher-preserved : goal.loop-reacher-preserved
loop-reacher-preserved g c =
    let s = g.met.S.Sink.laws in
    let line = reacher_line in
    let xs = c.args.reachers.now in
    let cut = flat-cut line xs c.loop-reacher.reacher-index c.reacher-item.result c.loop-reacher-test.true in
    let here : Gone g.S.Sink.took c.args.sink.now c.loop-reacher.sink (flat_map line xs) _ = subst (λ (t : List ℕ). Gone g.S.Sink.took c.args.sink.now c.loop-reacher.sink (flat_map line xs) t) cut c.loop-reacher.invariant in
    gone-more s _ _ _ _ _ _ here (rw c.reacher-item.is at c.in-Ok.ensures)
