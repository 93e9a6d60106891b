use Rattle.toml.specs.Data.{get_member}
use Rattle.toml.specs.View.{table_view}
use Rattle.fab_policy_text.specs.Forms.{QuorumFault, IsCount}
use Rattle.fab_policy_base.specs.Words.{key_word}
use Rattle.fab_policy_base.specs.declared.key.Key.TheVariants as key
use Rattle.fab_policy_text.proofs.Handed.{handed, there, flag}
use Rattle.fab_policy_text.proofs.forms.quorum.Goals as goal

pub returns-in_err-count-clause-fault : goal.returns-in_err-count-clause-fault
returns-in_err-count-clause-fault c = handed c.from_residual.result _ (QuorumFault (table_view c.args.table.now)) c.from_residual.ensures.1 (λ m. QuorumFault.in_count (c.in_err-count.ensures.fault m))

pub returns-in_err-approver-clause-fault : goal.returns-in_err-approver-clause-fault
returns-in_err-approver-clause-fault c = handed c.from_residual-in_err-approver.result _ (QuorumFault (table_view c.args.table.now)) c.from_residual-in_err-approver.ensures.1 (λ m. QuorumFault.in_approver (c.in_err-approver.ensures.fault m))

pub returns-in_err-fresh-clause-fault : goal.returns-in_err-fresh-clause-fault
returns-in_err-fresh-clause-fault c = handed c.from_residual-in_err-fresh.result _ (QuorumFault (table_view c.args.table.now)) c.from_residual-in_err-fresh.ensures.1 (λ m. QuorumFault.in_fresh (c.in_err-fresh.ensures.fault m))

pub returns-in_err-each_tenant-clause-fault : goal.returns-in_err-each_tenant-clause-fault
returns-in_err-each_tenant-clause-fault c = handed c.from_residual-in_err-each_tenant.result _ (QuorumFault (table_view c.args.table.now)) c.from_residual-in_err-each_tenant.ensures.1 (λ m. QuorumFault.in_each_tenant (c.in_err-each_tenant.ensures.fault m))

pub returns-in-Some-clause-ok : goal.returns-in-Some-clause-ok
returns-in-Some-clause-ok c = record {
  count = there (get_member (key_word key.Approvals) (table_view c.args.table.now)) c.in_ok-count.count c.in-Some.count (λ d n. IsCount d n.number) c.in-Some.is c.in_ok-count.ensures.ok;
  approver = c.in_ok-approver.ensures.ok;
  fresh = flag (get_member (key_word key.Fresh) (table_view c.args.table.now)) c.in_ok-fresh.fresh c.unwrap_or.result c.in_ok-fresh.ensures.ok c.unwrap_or.ensures;
  each_tenant = flag (get_member (key_word key.EachTenant) (table_view c.args.table.now)) c.in_ok-each_tenant.each_tenant c.unwrap_or-in-Some.result c.in_ok-each_tenant.ensures.ok c.unwrap_or-in-Some.ensures;
}
