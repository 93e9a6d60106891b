use Rattle.std.proofs.Common.{ℕ, List, subst}
use Rattle.std.specs.List.{flat_map}
use Rattle.fab_wire_streams.proofs.SentLemmas.{flat-cut}
use Rattle.fab_wire_streams.proofs.Turns.{Gone, gone-cut, gone-more}
use Rattle.fab_files_policy.specs.Shown.{rule_lines}
use Rattle.fab_files_policy.proofs.shown.put_rules.Goals as goal

pub returns-in_default : goal.returns-in_default
returns-in_default g c =
    let s = g.met.S.Sink.laws in
    let line = rule_lines in
    let xs = c.args.rules.now in
    let cut = flat-cut line xs c.loop-rule.rule-index c.rule-item.result c.loop-rule-test.true in
    let here : Gone g.S.Sink.took c.args.sink.now c.loop-rule.sink (flat_map line xs) _ = subst (λ (t : List ℕ). Gone g.S.Sink.took c.args.sink.now c.loop-rule.sink (flat_map line xs) t) cut c.loop-rule.invariant in
    gone-cut s _ _ _ _ _ _ here (rw c.rule-item.is at c.in_default.ensures)

pub loop-rule-preserved : goal.loop-rule-preserved
loop-rule-preserved g c =
    let s = g.met.S.Sink.laws in
    let line = rule_lines in
    let xs = c.args.rules.now in
    let cut = flat-cut line xs c.loop-rule.rule-index c.rule-item.result c.loop-rule-test.true in
    let here : Gone g.S.Sink.took c.args.sink.now c.loop-rule.sink (flat_map line xs) _ = subst (λ (t : List ℕ). Gone g.S.Sink.took c.args.sink.now c.loop-rule.sink (flat_map line xs) t) cut c.loop-rule.invariant in
    gone-more s _ _ _ _ _ _ here (rw c.rule-item.is at c.in-Ok.ensures)
