use Rattle.std.proofs.Common.{ℕ, List, subst}
use Rattle.std.specs.List.{flat_map}
use Rattle.fab_wire_streams.proofs.SentLemmas.{flat-cut}
use Rattle.fab_wire_streams.proofs.Turns.{Gone, gone-cut, gone-more}
use Rattle.fab_files_policy.specs.Findings.{finding_lines}
use Rattle.fab_files_policy.proofs.findings.put_findings.Goals as goal

pub returns-in_default : goal.returns-in_default
returns-in_default g c =
    let s = g.met.S.Sink.laws in
    let line = finding_lines in
    let xs = c.args.findings.now in
    let cut = flat-cut line xs c.loop-found.found-index c.found-item.result c.loop-found-test.true in
    let here : Gone g.S.Sink.took c.args.sink.now c.loop-found.sink (flat_map line xs) _ = subst (λ (t : List ℕ). Gone g.S.Sink.took c.args.sink.now c.loop-found.sink (flat_map line xs) t) cut c.loop-found.invariant in
    gone-cut s _ _ _ _ _ _ here (rw c.found-item.is at c.in_default.ensures)

pub loop-found-preserved : goal.loop-found-preserved
loop-found-preserved g c =
    let s = g.met.S.Sink.laws in
    let line = finding_lines in
    let xs = c.args.findings.now in
    let cut = flat-cut line xs c.loop-found.found-index c.found-item.result c.loop-found-test.true in
    let here : Gone g.S.Sink.took c.args.sink.now c.loop-found.sink (flat_map line xs) _ = subst (λ (t : List ℕ). Gone g.S.Sink.took c.args.sink.now c.loop-found.sink (flat_map line xs) t) cut c.loop-found.invariant in
    gone-more s _ _ _ _ _ _ here (rw c.found-item.is at c.in-Ok.ensures)
