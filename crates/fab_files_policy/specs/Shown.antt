-- A policy in TOML, as its file has it, but for the tokens.
use Rattle.std.specs.Prelude.{ℕ, Bool, true, false, List, [], ◌∷◌, ◌++◌, Option, Some, None, codes, decimal}
use Rattle.std.specs.List.{flat_map}
use Rattle.fab_names.specs.Fabrics.{fabric_text}
use Rattle.fab_names.specs.declared.fabric.Fabric.{Fabric}
use Rattle.fab_policy_base.specs.Policies.{CallerRow, WindowRow, RuleRow, PolicyRows, TenantNames}
use Rattle.fab_policy_base.specs.Words.{action_word}
use Rattle.fab_policy_base.specs.declared.policy.Action.{Action}
use Rattle.fab_policy_base.specs.declared.policy.Freeze.{Freeze}
use Rattle.fab_policy_base.specs.declared.policy.Quorum.{Quorum}
use Rattle.fab_policy_base.specs.declared.policy.Scope.{Scope}
use Rattle.fab_policy_base.specs.declared.policy.WeekSpan.{WeekSpan}

-- a fixed text
unfoldable pub said : List ℕ → List ℕ
said text = text

-- a key and a text
unfoldable pub text_line : List ℕ → List ℕ → List ℕ
text_line key text = key ++ (codes " = \"" ++ (text ++ codes "\"\n"))

-- the same, where there is a text
abbrev pub maybe_line : List ℕ → Option (List ℕ) → List ℕ
maybe_line key None = []
maybe_line key (Some text) = text_line key text

-- an element of a list: a text, or a pair of numbers
unfoldable pub item_line : List ℕ → List ℕ
item_line text = codes "  \"" ++ (text ++ codes "\",\n")

unfoldable pub pair_line : ℕ → ℕ → List ℕ
pair_line from until = codes "  [" ++ (decimal from ++ (codes ", " ++ (decimal until ++ codes "],\n")))

abbrev pub item_lines : List (List ℕ) → List ℕ
item_lines texts = flat_map item_line texts

-- a key and a list
abbrev pub list_lines : List ℕ → List (List ℕ) → List ℕ
list_lines key texts = said key ++ (item_lines texts ++ said (codes "]\n"))

abbrev pub tenants_lines : TenantNames → List ℕ
tenants_lines None = said (codes "tenants = \"*\"\n")
tenants_lines (Some names) = list_lines (codes "tenants = [\n") names

-- a caller without the token
abbrev pub caller_lines : CallerRow → List ℕ
caller_lines c = said (codes "[[callers]]\n") ++ (text_line (codes "name") c.name ++ (list_lines (codes "roles = [\n") c.roles ++ tenants_lines c.tenants))

unfoldable pub span_line : WeekSpan → List ℕ
span_line span = pair_line span.from span.until

unfoldable pub freeze_line : Freeze → List ℕ
freeze_line freeze = pair_line freeze.from freeze.until

abbrev pub weekly_lines : List WeekSpan → List ℕ
weekly_lines spans = said (codes "weekly = [\n") ++ (flat_map span_line spans ++ said (codes "]\n"))

abbrev pub freeze_lines : List Freeze → List ℕ
freeze_lines freezes = said (codes "freeze = [\n") ++ (flat_map freeze_line freezes ++ said (codes "]\n"))

abbrev pub times_lines : WindowRow → List ℕ
times_lines w = weekly_lines w.weekly ++ freeze_lines w.freeze

abbrev pub window_lines : WindowRow → List ℕ
window_lines w = said (codes "[[windows]]\n") ++ (text_line (codes "name") w.name ++ times_lines w)

abbrev pub action_lines : List Action → List ℕ
action_lines actions = flat_map (λ a. item_line (action_word a)) actions

abbrev pub fabric_line : Option Fabric → List ℕ
fabric_line None = []
fabric_line (Some fabric) = text_line (codes "fabric") (fabric_text fabric)

abbrev pub scope_line : Option Scope → List ℕ
scope_line None = []
scope_line (Some scope) = said (codes "scope = \"own\"\n")

-- a key that is true, or is not there
abbrev pub flag_line : List ℕ → Bool → List ℕ
flag_line line false = []
flag_line line true = said line

unfoldable pub count_line : ℕ → List ℕ
count_line count = codes "approvals = " ++ (decimal count ++ 10 ∷ [])

abbrev pub quorum_lines : Option Quorum → List ℕ
quorum_lines None = []
quorum_lines (Some q) = count_line q.count ++ (maybe_line (codes "approver") q.approver ++ (flag_line (codes "fresh = true\n") q.fresh ++ flag_line (codes "each_tenant = true\n") q.each_tenant))

abbrev pub subject_lines : RuleRow → List ℕ
subject_lines r = said (codes "[[rules]]\n") ++ (text_line (codes "name") r.name ++ (said (codes "actions = [\n") ++ (action_lines r.actions ++ said (codes "]\n"))))

abbrev pub needs_lines : RuleRow → List ℕ
needs_lines r = maybe_line (codes "role") r.role ++ (scope_line r.scope ++ (maybe_line (codes "window") r.window ++ quorum_lines r.approvals))

abbrev pub rule_lines : RuleRow → List ℕ
rule_lines r = subject_lines r ++ (fabric_line r.fabric ++ needs_lines r)

-- callers, windows and rules
abbrev pub policy_text : PolicyRows → List ℕ
policy_text p = flat_map caller_lines p.callers ++ (flat_map window_lines p.windows ++ flat_map rule_lines p.rules)
