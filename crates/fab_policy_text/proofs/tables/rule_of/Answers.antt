use Rattle.toml.specs.View.{table_view}
use Rattle.fab_policy_text.specs.Tables.{RuleFault}
use Rattle.fab_policy_text.proofs.Handed.{handed}
use Rattle.fab_policy_text.proofs.tables.rule_of.Goals as goal

pub returns-in_err-only_rule_keys-clause-fault : goal.returns-in_err-only_rule_keys-clause-fault
returns-in_err-only_rule_keys-clause-fault c = handed c.from_residual.result _ (RuleFault (table_view c.args.table.now)) c.from_residual.ensures.1 (λ m. RuleFault.other_key (c.in_err-only_rule_keys.ensures.fault m))

pub returns-in_err-name-clause-fault : goal.returns-in_err-name-clause-fault
returns-in_err-name-clause-fault c = handed c.from_residual-in_err-name.result _ (RuleFault (table_view c.args.table.now)) c.from_residual-in_err-name.ensures.1 (λ m. RuleFault.in_name (c.in_err-name.ensures.fault m))

pub returns-in_err-actions-clause-fault : goal.returns-in_err-actions-clause-fault
returns-in_err-actions-clause-fault c = handed c.from_residual-in_err-actions.result _ (RuleFault (table_view c.args.table.now)) c.from_residual-in_err-actions.ensures.1 (λ m. RuleFault.in_actions (c.in_err-actions.ensures.fault m))

pub returns-in_err-fabric-clause-fault : goal.returns-in_err-fabric-clause-fault
returns-in_err-fabric-clause-fault c = handed c.from_residual-in_err-fabric.result _ (RuleFault (table_view c.args.table.now)) c.from_residual-in_err-fabric.ensures.1 (λ m. RuleFault.in_fabric (c.in_err-fabric.ensures.fault m))

pub returns-in_err-scope-clause-fault : goal.returns-in_err-scope-clause-fault
returns-in_err-scope-clause-fault c = handed c.from_residual-in_err-scope.result _ (RuleFault (table_view c.args.table.now)) c.from_residual-in_err-scope.ensures.1 (λ m. RuleFault.in_scope (c.in_err-scope.ensures.fault m))

pub returns-in_err-window-clause-fault : goal.returns-in_err-window-clause-fault
returns-in_err-window-clause-fault c = handed c.from_residual-in_err-window.result _ (RuleFault (table_view c.args.table.now)) c.from_residual-in_err-window.ensures.1 (λ m. RuleFault.in_window (c.in_err-window.ensures.fault m))

pub returns-in_err-approvals-clause-fault : goal.returns-in_err-approvals-clause-fault
returns-in_err-approvals-clause-fault c = handed c.from_residual-in_err-approvals.result _ (RuleFault (table_view c.args.table.now)) c.from_residual-in_err-approvals.ensures.1 (λ m. RuleFault.in_approvals (c.in_err-approvals.ensures.fault m))
