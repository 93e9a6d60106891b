use Rattle.toml.specs.View.{table_view}
use Rattle.fab_policy_text.specs.Tables.{CallerFault}
use Rattle.fab_policy_text.proofs.Handed.{handed}
use Rattle.fab_policy_text.proofs.tables.caller_of.Goals as goal

pub returns-in_err-name-clause-fault : goal.returns-in_err-name-clause-fault
returns-in_err-name-clause-fault c = handed c.from_residual-in_err-name.result _ (CallerFault (table_view c.args.table.now)) c.from_residual-in_err-name.ensures.1 (λ m. CallerFault.in_name (c.in_err-name.ensures.fault m))

pub returns-in_err-token-clause-fault : goal.returns-in_err-token-clause-fault
returns-in_err-token-clause-fault c = handed c.from_residual-in_err-token.result _ (CallerFault (table_view c.args.table.now)) c.from_residual-in_err-token.ensures.1 (λ m. CallerFault.in_token (c.in_err-token.ensures.fault m))

pub returns-in_err-roles-clause-fault : goal.returns-in_err-roles-clause-fault
returns-in_err-roles-clause-fault c = handed c.from_residual-in_err-roles.result _ (CallerFault (table_view c.args.table.now)) c.from_residual-in_err-roles.ensures.1 (λ m. CallerFault.in_roles (c.in_err-roles.ensures.fault m))

pub returns-in_err-tenants-clause-fault : goal.returns-in_err-tenants-clause-fault
returns-in_err-tenants-clause-fault c = handed c.from_residual-in_err-tenants.result _ (CallerFault (table_view c.args.table.now)) c.from_residual-in_err-tenants.ensures.1 (λ m. CallerFault.in_tenants (c.in_err-tenants.ensures.fault m))
