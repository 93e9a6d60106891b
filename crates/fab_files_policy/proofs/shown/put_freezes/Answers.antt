use Rattle.std.proofs.Common.{ℕ, List, subst}
use Rattle.std.specs.List.{flat_map}
use Rattle.fab_wire_streams.proofs.SentLemmas.{flat-cut}
use Rattle.fab_wire_streams.proofs.Turns.{Gone, gone-cut, gone-more}
use Rattle.fab_files_policy.specs.Shown.{freeze_line}
use Rattle.fab_files_policy.proofs.shown.put_freezes.Goals as goal

pub returns-in_default : goal.returns-in_default
returns-in_default g c =
    let s = g.met.S.Sink.laws in
    let line = freeze_line in
    let xs = c.args.freezes.now in
    let cut = flat-cut line xs c.loop-freeze.freeze-index _ c.loop-freeze-test.true in
    let here : Gone g.S.Sink.took c.args.sink.now c.loop-freeze.sink (flat_map line xs) _ = subst (λ (t : List ℕ). Gone g.S.Sink.took c.args.sink.now c.loop-freeze.sink (flat_map line xs) t) cut c.loop-freeze.invariant in
    gone-cut s _ _ _ _ _ _ here c.in_default.ensures

pub loop-freeze-preserved : goal.loop-freeze-preserved
loop-freeze-preserved g c =
    let s = g.met.S.Sink.laws in
    let line = freeze_line in
    let xs = c.args.freezes.now in
    let cut = flat-cut line xs c.loop-freeze.freeze-index _ c.loop-freeze-test.true in
    let here : Gone g.S.Sink.took c.args.sink.now c.loop-freeze.sink (flat_map line xs) _ = subst (λ (t : List ℕ). Gone g.S.Sink.took c.args.sink.now c.loop-freeze.sink (flat_map line xs) t) cut c.loop-freeze.invariant in
    gone-more s _ _ _ _ _ _ here c.in-Ok.ensures
