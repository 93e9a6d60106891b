use Rattle.std.proofs.Common.{◌≡◌, List, ◌∙◌, ap, sym, subst}
use Rattle.toml.specs.Data.{Members}
use Rattle.toml.specs.View.{table_view}
use Rattle.fab_policy_base.specs.Policies.{CallerRow, WindowRow, RuleRow}
use Rattle.fab_policy_base.specs.Sound.{AreDistinct, HaveWindows, caller_names, caller_tokens, rule_names, rule_windows, window_names}
use Rattle.fab_policy_text.specs.Shapes.{HasOnly}
use Rattle.fab_policy_text.specs.Tables.{CallersIn, WindowsIn, RulesIn, IsPolicyTable, PolicyTableFault, IsMissing, policy_keys}
use Rattle.fab_policy_base.specs.declared.fault.PolicyFault.TheVariants as fault
use Rattle.fab_policy_text.proofs.Sound.{policy}
use Rattle.fab_policy_text.proofs.reading.policy_of.Goals as goal

pub returns-in-Some-clause-fault : goal.returns-in-Some-clause-fault
returns-in-Some-clause-fault c m =
    let missing = subst (λ ws. IsMissing (rule_windows c.in_ok-rules.rules.items) (window_names ws) c.in-Some.name) c.as_slice.ensures.value
    (subst (λ rs. IsMissing (rule_windows rs) (window_names c.as_slice.result.now) c.in-Some.name) c.as_slice-2.ensures.value c.in-Some.ensures) in
    PolicyTableFault.unknown_window c.in_ok-windows.windows.items c.in_ok-rules.rules.items c.in_ok-windows.ensures.ok c.in_ok-rules.ensures.ok
    (c.in-Some.name, missing, c.unknown.ensures m ∙ ap fault.Unknown c.as_str.ensures.text)

-- the table of a policy, by its parts
table_of : (t : Members) (cs : List CallerRow) (ws : List WindowRow) (rs : List RuleRow) → CallersIn t cs → AreDistinct (caller_names cs) → AreDistinct (caller_tokens cs)
    → WindowsIn t ws → AreDistinct (window_names ws) → RulesIn t rs → AreDistinct (rule_names rs) → HasOnly policy_keys t
    → (ns : List WindowRow) (qs : List RuleRow) → ns ≡ ws → qs ≡ rs → HaveWindows (rule_windows qs) (window_names ns)
    → IsPolicyTable t (record { callers = cs; windows = ws; rules = rs })
table_of t cs ws rs callers names tokens windows named rules ruled only ns qs n q there = record {
  callers = callers;
  windows = windows;
  rules = rules;
  distinct_callers = names;
  distinct_tokens = tokens;
  distinct_windows = named;
  distinct_rules = ruled;
  windows_there = subst (λ l. HaveWindows (rule_windows rs) (window_names l)) n (subst (λ l. HaveWindows (rule_windows l) (window_names ns)) q there);
  only = only;
}

pub new-requires : goal.new-requires
new-requires c = policy (table_view c.args.table.now) _
    (table_of _ _ _ _ c.in_ok-callers.ensures.ok c.in_ok-callers.ensures.names c.in_ok-callers.ensures.tokens c.in_ok-windows.ensures.ok c.in_ok-windows.ensures.names
    c.in_ok-rules.ensures.ok c.in_ok-rules.ensures.names c.in_ok-only.ensures.ok _ _ c.as_slice.ensures.value c.as_slice-2.ensures.value c.in_default.ensures)

pub returns-clause-ok : goal.returns-clause-ok
returns-clause-ok c = subst (IsPolicyTable (table_view c.args.table.now)) (sym c.new.ensures)
    (table_of _ _ _ _ c.in_ok-callers.ensures.ok c.in_ok-callers.ensures.names c.in_ok-callers.ensures.tokens c.in_ok-windows.ensures.ok c.in_ok-windows.ensures.names
    c.in_ok-rules.ensures.ok c.in_ok-rules.ensures.names c.in_ok-only.ensures.ok _ _ c.as_slice.ensures.value c.as_slice-2.ensures.value c.in_default.ensures)
