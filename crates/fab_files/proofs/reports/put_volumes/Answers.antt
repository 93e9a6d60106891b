use Rattle.std.proofs.Common.{ℕ, List, subst}
use Rattle.std.specs.Map.Iter.{deref_pair}
use Rattle.std.proofs.lemmas.Map.Iter.{rest_more}
use Rattle.fab_wire_streams.proofs.Turns.{Gone, gone-more}
use Rattle.fab_files.specs.Counting.{entry_lines}
use Rattle.fab_files.specs.declared.counts.Counts.{Counts}
use Rattle.fab_files.proofs.reports.put_volumes.Goals as goal

pub loop-volume-preserved : goal.loop-volume-preserved
loop-volume-preserved g c =
    let s = g.met.S.Sink.laws in
    let host = c.args.host.now in
    let whole = entry_lines host c.args.counts.now.entries in
    let cut = rest_more deref_pair c.loop-volume.volume-iterator c.next.new.self c.next.result (c.in-Some.volume, c.in-Some.counts) c.in-Some.is c.next.ensures.steps in
    let here : Gone g.S.Sink.took c.args.sink.now c.loop-volume.sink whole _ = subst (λ (es : List (List ℕ × Counts)). Gone g.S.Sink.took c.args.sink.now c.loop-volume.sink whole (entry_lines host es)) cut c.loop-volume.invariant in
    gone-more s _ _ _ _ _ _ here c.in-Ok.ensures
