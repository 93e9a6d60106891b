use Rattle.std.proofs.Common.{subst, List, ℕ}
use Rattle.std.specs.List.{flat_map}
use Rattle.fab_wire_streams.proofs.SentLemmas.{flat-cut}
use Rattle.fab_wire_streams.proofs.Turns.{Gone, gone-more}
use Rattle.fab_wire_streams.proofs.sink.put_all.Goals as goal

pub loop-text-preserved : goal.loop-text-preserved
loop-text-preserved g c =
    let s = g.met.S.Sink.laws in
    let cut = flat-cut (λ text. text.now) c.args.texts.now c.loop-text.text-index _ c.loop-text-test.true in
    let here : Gone g.S.Sink.took c.args.sink.now c.loop-text.sink (flat_map (λ text. text.now) c.args.texts.now) _ = subst (λ (t : List ℕ). Gone g.S.Sink.took c.args.sink.now c.loop-text.sink (flat_map (λ text. text.now) c.args.texts.now) t) cut c.loop-text.invariant in
    gone-more s _ _ _ _ _ _ here c.in-Ok.ensures
