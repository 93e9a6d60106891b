use Rattle.std.proofs.Common.{◌∙◌, ap, sym, refl}
use Rattle.fab_policy.specs.Verdicts.{meets_approvals}
use Rattle.fab_policy.proofs.Counted.{met}
use Rattle.fab_policy.proofs.verdicts.meets_approvals.Goals as goal

pub returns-then-is_some : goal.returns-then-is_some
returns-then-is_some c =
    let act = c.args.act.now in
    c.has_quorum.ensures
    ∙ met c.args.policy.now act c.args.findings.now c.in-Some.quorum act.plan refl (sym c.is_some.ensures ∙ c.if-is_some.true) c.requires
    ∙ ap (meets_approvals c.args.policy.now.callers act) (sym c.in-Some.is)
