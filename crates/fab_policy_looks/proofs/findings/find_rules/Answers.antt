use Rattle.std.proofs.Common.{◌∙◌, ◌+◌, ap, ◌<◌, ◌≤◌, length, List, get_or, subst}
use Rattle.fab_policy_base.specs.Policies.{RuleRow}
use Rattle.fab_policy_looks.specs.Findings.{AddsFinding, AreFindings}
use Rattle.fab_policy_looks.proofs.Gathered.{gathered_more, gathered_all}
use Rattle.fab_policy_looks.proofs.findings.find_rules.Goals as goal

pub loop-place-preserved : goal.loop-place-preserved
loop-place-preserved c =
    let p = c.args.policy.now in
    let a = c.args.act.now in
    let adds = subst (λ (r : RuleRow). AddsFinding p a (c.loop-place.place + 1) r c.loop-place.found.items c.add_rule.new.found.items) (c.rule-item.is ∙ ap (λ (rs : List RuleRow). get_or rs c.loop-place.place c.rule-item.result) c.rules-rule-items.ensures) c.in_ok-add_rule.ensures in
    gathered_more p a c.loop-place.place c.rule-item.result (AreFindings p a 1 p.rules) c.loop-place.found.items c.add_rule.new.found.items (subst (λ (rs : List RuleRow). c.loop-place.place < length rs) c.rules-rule-items.ensures c.loop-place-test.true) c.loop-place.invariant adds

pub returns : goal.returns
returns c =
    let p = c.args.policy.now in
    let a = c.args.act.now in
    gathered_all p a c.loop-place.place (AreFindings p a 1 p.rules) c.loop-place.found.items (subst (λ (rs : List RuleRow). length rs ≤ c.loop-place.place) c.rules-rule-items.ensures c.loop-place-test.false) c.loop-place.invariant
