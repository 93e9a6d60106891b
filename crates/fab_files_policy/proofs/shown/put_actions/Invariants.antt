use Rattle.std.proofs.Common.{drop}
use Rattle.std.specs.List.{flat_map}
use Rattle.fab_wire_streams.proofs.Turns.{Gone}
use Rattle.fab_policy_base.specs.Words.{action_word}
use Rattle.fab_policy_base.specs.declared.policy.Action.{Action}
use Rattle.fab_files_policy.specs.Shown.{item_line}
use Rattle.fab_files_policy.proofs.shown.put_actions.Given as goal

abbrev pub invariant-loop-action : goal.invariant-loop-action
invariant-loop-action g l = Gone g.S.Sink.took l.fn.sink l.sink (flat_map (λ (a : Action). item_line (action_word a)) l.fn.actions) (flat_map (λ (a : Action). item_line (action_word a)) (drop l.action-index l.actions))
