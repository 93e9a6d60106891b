use Rattle.std.proofs.Common.{ℕ, List, subst}
use Rattle.std.specs.List.{flat_map}
use Rattle.fab_wire_streams.proofs.SentLemmas.{flat-cut}
use Rattle.fab_wire_streams.proofs.Turns.{Gone, gone-cut, gone-more}
use Rattle.fab_program_checks.specs.Notes.{warning_line}
use Rattle.fab_program_checks.proofs.notes.put_warnings.Goals as goal

pub returns-in_default : goal.returns-in_default
returns-in_default g c =
    let s = g.met.S.Sink.laws in
    let line = warning_line c.args.path.now in
    let xs = c.args.warnings.now in
    let cut = flat-cut line xs c.loop-warning.warning-index c.warning-item.result c.loop-warning-test.true in
    let here : Gone g.S.Sink.took c.args.sink.now c.loop-warning.sink (flat_map line xs) _ = subst (λ (t : List ℕ). Gone g.S.Sink.took c.args.sink.now c.loop-warning.sink (flat_map line xs) t) cut c.loop-warning.invariant in
    gone-cut s _ _ _ _ _ _ here (rw c.warning-item.is at c.in_default.ensures)

pub loop-warning-preserved : goal.loop-warning-preserved
loop-warning-preserved g c =
    let s = g.met.S.Sink.laws in
    let line = warning_line c.args.path.now in
    let xs = c.args.warnings.now in
    let cut = flat-cut line xs c.loop-warning.warning-index c.warning-item.result c.loop-warning-test.true in
    let here : Gone g.S.Sink.took c.args.sink.now c.loop-warning.sink (flat_map line xs) _ = subst (λ (t : List ℕ). Gone g.S.Sink.took c.args.sink.now c.loop-warning.sink (flat_map line xs) t) cut c.loop-warning.invariant in
    gone-more s _ _ _ _ _ _ here (rw c.warning-item.is at c.in-Ok.ensures)
