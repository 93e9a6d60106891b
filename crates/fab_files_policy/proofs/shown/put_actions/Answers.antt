use Rattle.std.proofs.Common.{ℕ, List, subst}
use Rattle.std.specs.List.{flat_map}
use Rattle.fab_wire_streams.proofs.SentLemmas.{flat-cut}
use Rattle.fab_wire_streams.proofs.Turns.{Gone, gone-cut, gone-more}
use Rattle.fab_policy_base.specs.Words.{action_word}
use Rattle.fab_policy_base.specs.declared.policy.Action.{Action}
use Rattle.fab_files_policy.specs.Shown.{item_line}
use Rattle.fab_files_policy.proofs.shown.put_actions.Goals as goal

pub returns-in_default : goal.returns-in_default
returns-in_default g c =
    let s = g.met.S.Sink.laws in
    let line = (λ (a : Action). item_line (action_word a)) in
    let xs = c.args.actions.now in
    let cut = flat-cut line xs c.loop-action.action-index _ c.loop-action-test.true in
    let here : Gone g.S.Sink.took c.args.sink.now c.loop-action.sink (flat_map line xs) _ = subst (λ (t : List ℕ). Gone g.S.Sink.took c.args.sink.now c.loop-action.sink (flat_map line xs) t) cut c.loop-action.invariant in
    gone-cut s _ _ _ _ _ _ here c.in_default.ensures

pub loop-action-preserved : goal.loop-action-preserved
loop-action-preserved g c =
    let s = g.met.S.Sink.laws in
    let line = (λ (a : Action). item_line (action_word a)) in
    let xs = c.args.actions.now in
    let cut = flat-cut line xs c.loop-action.action-index _ c.loop-action-test.true in
    let here : Gone g.S.Sink.took c.args.sink.now c.loop-action.sink (flat_map line xs) _ = subst (λ (t : List ℕ). Gone g.S.Sink.took c.args.sink.now c.loop-action.sink (flat_map line xs) t) cut c.loop-action.invariant in
    gone-more s _ _ _ _ _ _ here c.in-Ok.ensures
