use Rattle.std.proofs.Common.{◌∙◌, ◌&&◌}
use Rattle.std.specs.List.{list_all, list_any, zip}
use Rattle.fab_policy_base.specs.Callers.{lists_tenant}
use Rattle.fab_policy.specs.Verdicts.{has_role}
use Rattle.fab_policy.proofs.verdicts.are_signed_for.Goals as goal

pub returns : goal.returns
returns c =
    c.is_each_listed.ensures
    ∙ λ i. list_all
    (λ tenant. list_any
    (λ p. (p.1 && has_role c.args.quorum.now.approver p.0) && lists_tenant p.0 tenant)
    (zip (c.callers.ensures i) (c.signed-signed.ensures i)))
    c.args.tenants.now
