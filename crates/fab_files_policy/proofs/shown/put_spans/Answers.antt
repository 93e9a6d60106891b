use Rattle.std.proofs.Common.{ℕ, List, subst}
use Rattle.std.specs.List.{flat_map}
use Rattle.fab_wire_streams.proofs.SentLemmas.{flat-cut}
use Rattle.fab_wire_streams.proofs.Turns.{Gone, gone-cut, gone-more}
use Rattle.fab_files_policy.specs.Shown.{span_line}
use Rattle.fab_files_policy.proofs.shown.put_spans.Goals as goal

pub returns-in_default : goal.returns-in_default
returns-in_default g c =
    let s = g.met.S.Sink.laws in
    let line = span_line in
    let xs = c.args.spans.now in
    let cut = flat-cut line xs c.loop-span.span-index _ c.loop-span-test.true in
    let here : Gone g.S.Sink.took c.args.sink.now c.loop-span.sink (flat_map line xs) _ = subst (λ (t : List ℕ). Gone g.S.Sink.took c.args.sink.now c.loop-span.sink (flat_map line xs) t) cut c.loop-span.invariant in
    gone-cut s _ _ _ _ _ _ here c.in_default.ensures

pub loop-span-preserved : goal.loop-span-preserved
loop-span-preserved g c =
    let s = g.met.S.Sink.laws in
    let line = span_line in
    let xs = c.args.spans.now in
    let cut = flat-cut line xs c.loop-span.span-index _ c.loop-span-test.true in
    let here : Gone g.S.Sink.took c.args.sink.now c.loop-span.sink (flat_map line xs) _ = subst (λ (t : List ℕ). Gone g.S.Sink.took c.args.sink.now c.loop-span.sink (flat_map line xs) t) cut c.loop-span.invariant in
    gone-more s _ _ _ _ _ _ here c.in-Ok.ensures
