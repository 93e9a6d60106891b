-- What holds of every policy: names and tokens stand once, each window that a rule names is there, and no limit is passed.
use Rattle.std.specs.Prelude.{◌≡◌, ℕ, ◌<◌, ◌≤◌, true, List, [], length, map, Option, Some, IfSome, Contains, All, slice_get, codes}
use Rattle.fab_names.specs.Tokens.{IsTokenText}
use Rattle.fab_policy_base.specs.Callers.{has_name}
use Rattle.fab_policy_base.specs.Limits.{most_callers, most_windows, most_rules, most_roles, most_tenants, most_weekly, most_freezes, most_approvals, week_minutes}
use Rattle.fab_policy_base.specs.Policies.{CallerRow, WindowRow, RuleRow, PolicyRows}

-- the text at the place stands at an earlier place too
pub record RepeatsAt (texts : List (List ℕ)) (place : ℕ) : Type 0 where
  pub first : ℕ
  pub text : List ℕ
  pub before : first < place
  pub earlier : slice_get texts first ≡ Some text
  pub again : slice_get texts place ≡ Some text

-- no text stands twice
abbrev pub AreDistinct : List (List ℕ) → Type 0
AreDistinct texts = (place : ℕ) → ¬ RepeatsAt texts place

-- each window that is asked for is there
abbrev pub HaveWindows : List (Option (List ℕ)) → List (List ℕ) → Type 0
HaveWindows asked names = (name : List ℕ) → Contains asked (Some name) → has_name names name ≡ true

-- names, tokens, and the windows that rules name
abbrev pub caller_names : List CallerRow → List (List ℕ)
caller_names cs = map (λ c. c.name) cs

abbrev pub caller_tokens : List CallerRow → List (List ℕ)
caller_tokens cs = map (λ c. c.token) cs

abbrev pub window_names : List WindowRow → List (List ℕ)
window_names ws = map (λ w. w.name) ws

abbrev pub rule_names : List RuleRow → List (List ℕ)
rule_names rs = map (λ r. r.name) rs

abbrev pub rule_windows : List RuleRow → List (Option (List ℕ))
rule_windows rs = map (λ r. r.window) rs

-- a caller within the limits, with a token of the right form
pub record IsCaller (c : CallerRow) : Type 0 where
  pub token : IsTokenText c.token
  pub roles : length c.roles ≤ most_roles
  pub tenants : IfSome c.tenants (λ names. length names ≤ most_tenants)

-- a window within the limits, whose spans hold something, and those of the week lie in its minutes
pub record IsWindow (w : WindowRow) : Type 0 where
  pub few_weekly : length w.weekly ≤ most_weekly
  pub few_freezes : length w.freeze ≤ most_freezes
  pub weekly : All (λ s. (s.from < s.until) × (s.until ≤ week_minutes)) w.weekly
  pub freezes : All (λ f. f.from < f.until) w.freeze

-- a rule that speaks of some action, and asks for at least one approval where it asks for any
pub record IsRule (r : RuleRow) : Type 0 where
  pub named : ¬ (r.name ≡ codes "no-rule")
  pub actions : ¬ (r.actions ≡ [])
  pub approvals : IfSome r.approvals (λ q. (1 ≤ q.count) × (q.count ≤ most_approvals))

-- what holds of every policy
pub record IsSound (p : PolicyRows) : Type 0 where
  pub names : AreDistinct (caller_names p.callers)
  pub tokens : AreDistinct (caller_tokens p.callers)
  pub windows_named : AreDistinct (window_names p.windows)
  pub rules_named : AreDistinct (rule_names p.rules)
  pub windows_there : HaveWindows (rule_windows p.rules) (window_names p.windows)
  pub few_callers : length p.callers ≤ most_callers
  pub few_windows : length p.windows ≤ most_windows
  pub few_rules : length p.rules ≤ most_rules
  pub callers : All IsCaller p.callers
  pub windows : All IsWindow p.windows
  pub rules : All IsRule p.rules
