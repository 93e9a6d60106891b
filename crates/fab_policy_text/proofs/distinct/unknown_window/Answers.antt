use Rattle.std.proofs.Common.{◌∙◌, ap}
use Rattle.fab_policy_base.specs.Policies.{RuleRow}
use Rattle.fab_policy_base.specs.Sound.{window_names}
use Rattle.fab_policy_text.specs.Tables.{missing_window}
use Rattle.fab_policy_text.proofs.Repeats.{one_missing, none_missing}
use Rattle.fab_policy_text.proofs.distinct.unknown_window.Goals as goal

pub returns-in-Some : goal.returns-in-Some
returns-in-Some c = one_missing (window_names c.args.windows.now) c.args.rules.now c.loop-rule.rule-index c.rule-item.result c.in-Some.name c.loop-rule-test.true c.rule-item.is
    (c.in-Some.ensures ∙ ap (λ (r : RuleRow). missing_window (window_names c.args.windows.now) r.window) c.rule.view_is)

pub returns : goal.returns
returns c = none_missing (window_names c.args.windows.now) c.args.rules.now c.loop-rule.rule-index c.loop-rule-test.false c.loop-rule.invariant
