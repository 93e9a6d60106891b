use Rattle.std.proofs.Common.{ℕ, List, subst}
use Rattle.std.specs.List.{flat_map}
use Rattle.fab_wire_streams.proofs.SentLemmas.{flat-cut}
use Rattle.fab_wire_streams.proofs.Turns.{Gone, gone-cut, gone-more}
use Rattle.fab_files_policy.specs.Shown.{caller_lines}
use Rattle.fab_files_policy.proofs.shown.put_callers.Goals as goal

pub returns-in_default : goal.returns-in_default
returns-in_default g c =
    let s = g.met.S.Sink.laws in
    let line = caller_lines in
    let xs = c.args.callers.now in
    let cut = flat-cut line xs c.loop-caller.caller-index c.caller-item.result c.loop-caller-test.true in
    let here : Gone g.S.Sink.took c.args.sink.now c.loop-caller.sink (flat_map line xs) _ = subst (λ (t : List ℕ). Gone g.S.Sink.took c.args.sink.now c.loop-caller.sink (flat_map line xs) t) cut c.loop-caller.invariant in
    gone-cut s _ _ _ _ _ _ here (rw c.caller-item.is at c.in_default.ensures)

pub loop-caller-preserved : goal.loop-caller-preserved
loop-caller-preserved g c =
    let s = g.met.S.Sink.laws in
    let line = caller_lines in
    let xs = c.args.callers.now in
    let cut = flat-cut line xs c.loop-caller.caller-index c.caller-item.result c.loop-caller-test.true in
    let here : Gone g.S.Sink.took c.args.sink.now c.loop-caller.sink (flat_map line xs) _ = subst (λ (t : List ℕ). Gone g.S.Sink.took c.args.sink.now c.loop-caller.sink (flat_map line xs) t) cut c.loop-caller.invariant in
    gone-more s _ _ _ _ _ _ here (rw c.caller-item.is at c.in-Ok.ensures)
