use Rattle.std.proofs.Common.{ℕ, List, subst}
use Rattle.std.specs.List.{flat_map}
use Rattle.fab_wire_streams.proofs.SentLemmas.{flat-cut}
use Rattle.fab_wire_streams.proofs.Turns.{Gone, gone-cut, gone-more}
use Rattle.fab_files_looks.specs.Lines.{approval_text}
use Rattle.fab_files_looks.proofs.lines.put_approvals.Goals as goal

pub returns-in_default : goal.returns-in_default
returns-in_default g c =
    let s = g.met.S.Sink.laws in
    let line = approval_text c.args.revision in
    let xs = c.args.approvals.now in
    let cut = flat-cut line xs c.loop-approval.approval-index c.approval-item.result c.loop-approval-test.true in
    let here : Gone g.S.Sink.took c.args.sink.now c.loop-approval.sink (flat_map line xs) _ = subst (λ (t : List ℕ). Gone g.S.Sink.took c.args.sink.now c.loop-approval.sink (flat_map line xs) t) cut c.loop-approval.invariant in
    gone-cut s _ _ _ _ _ _ here (rw c.approval-item.is at c.in_default.ensures)

pub loop-approval-preserved : goal.loop-approval-preserved
loop-approval-preserved g c =
    let s = g.met.S.Sink.laws in
    let line = approval_text c.args.revision in
    let xs = c.args.approvals.now in
    let cut = flat-cut line xs c.loop-approval.approval-index c.approval-item.result c.loop-approval-test.true in
    let here : Gone g.S.Sink.took c.args.sink.now c.loop-approval.sink (flat_map line xs) _ = subst (λ (t : List ℕ). Gone g.S.Sink.took c.args.sink.now c.loop-approval.sink (flat_map line xs) t) cut c.loop-approval.invariant in
    gone-more s _ _ _ _ _ _ here (rw c.approval-item.is at c.in-Ok.ensures)
