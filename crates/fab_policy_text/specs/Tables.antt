-- What the tables of a policy's text mean, and the whole text.
use Rattle.std.specs.Prelude.{◌≡◌, ℕ, false, List, [], ◌∷◌, Option, Some, None, Contains, slice_get, if◌then◌else◌}
use Rattle.fab_names.specs.Fabrics.{fabric_text}
use Rattle.toml.specs.Data.{Members}
use Rattle.toml.specs.Parse.{parse_document}
use Rattle.fab_policy_base.specs.Callers.{has_name}
use Rattle.fab_policy_text.specs.Forms.{IsName, IsToken, AreTenants, TenantsFault, IsWeekSpan, IsFreeze, IsRuleName, RuleNameFault, AreActions, ActionsFault, QuorumIn, QuorumFault}
use Rattle.fab_policy_base.specs.Policies.{CallerRow, WindowRow, RuleRow, PolicyRows}
use Rattle.fab_policy_base.specs.Limits.{most_callers, most_windows, most_rules, most_roles, most_weekly, most_freezes}
use Rattle.fab_policy_base.specs.Sound.{RepeatsAt, AreDistinct, HaveWindows, caller_names, caller_tokens, window_names, rule_names, rule_windows}
use Rattle.fab_policy_text.specs.Shapes.{At, MaybeAt, IsList, ListAt, IsTable, IsWord, HasOnly, MeansNothing, FaultAt, FaultIn, ListFault, TableFault, WordFault, HasOther}
use Rattle.fab_policy_base.specs.Words.{scope_word}
use Rattle.fab_policy_base.specs.declared.fault.PolicyFault.{PolicyFault}
use Rattle.fab_policy_base.specs.declared.fault.PolicyFault.TheVariants as fault
use Rattle.fab_policy_base.specs.declared.key.Key.{Key}
use Rattle.fab_policy_base.specs.declared.key.Key.TheVariants as key

-- the keys of a caller's table
abbrev pub caller_keys : List Key
caller_keys = key.Name ∷ key.Token ∷ key.Roles ∷ key.Tenants ∷ []

-- the table of a caller
pub record IsCallerTable (ms : Members) (c : CallerRow) : Type 0 where
  pub name : At key.Name IsName ms c.name
  pub token : At key.Token IsToken ms c.token
  pub roles : At key.Roles (IsList IsName most_roles) ms c.roles
  pub tenants : At key.Tenants AreTenants ms c.tenants
  pub only : HasOnly caller_keys ms

-- what is wrong with one
pub data CallerFault (ms : Members) (e : PolicyFault) : Type 0 where
  in_name : FaultAt key.Name (MeansNothing IsName) ms e → CallerFault ms e
  in_token : FaultAt key.Token (MeansNothing IsToken) ms e → CallerFault ms e
  in_roles : FaultAt key.Roles (ListFault (MeansNothing IsName) most_roles) ms e → CallerFault ms e
  in_tenants : FaultAt key.Tenants TenantsFault ms e → CallerFault ms e
  other_key : HasOther caller_keys ms e → CallerFault ms e

-- the keys of a window's table
abbrev pub window_keys : List Key
window_keys = key.Name ∷ key.Weekly ∷ key.Freeze ∷ []

-- the table of a window
pub record IsWindowTable (ms : Members) (w : WindowRow) : Type 0 where
  pub name : At key.Name IsName ms w.name
  pub weekly : At key.Weekly (IsList IsWeekSpan most_weekly) ms w.weekly
  pub freeze : ListAt key.Freeze IsFreeze most_freezes ms w.freeze
  pub only : HasOnly window_keys ms

-- what is wrong with one
pub data WindowFault (ms : Members) (e : PolicyFault) : Type 0 where
  in_name : FaultAt key.Name (MeansNothing IsName) ms e → WindowFault ms e
  in_weekly : FaultAt key.Weekly (ListFault (MeansNothing IsWeekSpan) most_weekly) ms e → WindowFault ms e
  in_freeze : FaultIn key.Freeze (ListFault (MeansNothing IsFreeze) most_freezes) ms e → WindowFault ms e
  other_key : HasOther window_keys ms e → WindowFault ms e

-- the keys of a rule's table
abbrev pub rule_keys : List Key
rule_keys = key.Name ∷ key.Actions ∷ key.Fabric ∷ key.Role ∷ key.Scope ∷ key.Window ∷ key.Approvals ∷ key.Approver ∷ key.Fresh ∷ key.EachTenant ∷ []

-- the table of a rule
pub record IsRuleTable (ms : Members) (r : RuleRow) : Type 0 where
  pub name : At key.Name IsRuleName ms r.name
  pub actions : At key.Actions AreActions ms r.actions
  pub fabric : MaybeAt key.Fabric (IsWord fabric_text) ms r.fabric
  pub role : MaybeAt key.Role IsName ms r.role
  pub scope : MaybeAt key.Scope (IsWord scope_word) ms r.scope
  pub window : MaybeAt key.Window IsName ms r.window
  pub approvals : QuorumIn ms r.approvals
  pub only : HasOnly rule_keys ms

-- what is wrong with one
pub data RuleFault (ms : Members) (e : PolicyFault) : Type 0 where
  in_name : FaultAt key.Name RuleNameFault ms e → RuleFault ms e
  in_actions : FaultAt key.Actions ActionsFault ms e → RuleFault ms e
  in_fabric : FaultIn key.Fabric (WordFault fabric_text) ms e → RuleFault ms e
  in_role : FaultIn key.Role (MeansNothing IsName) ms e → RuleFault ms e
  in_scope : FaultIn key.Scope (WordFault scope_word) ms e → RuleFault ms e
  in_window : FaultIn key.Window (MeansNothing IsName) ms e → RuleFault ms e
  in_approvals : QuorumFault ms e → RuleFault ms e
  other_key : HasOther rule_keys ms e → RuleFault ms e

-- a text stands twice, and the fault has the name of what has it again
pub record IsRepeated (texts names : List (List ℕ)) (e : PolicyFault) : Type 0 where
  pub place : ℕ
  pub name : List ℕ
  pub repeats : RepeatsAt texts place
  pub named : slice_get names place ≡ Some name
  pub repeated : e ≡ fault.Repeated name

-- the name of a window that is asked for and is not there
abbrev pub missing_window : List (List ℕ) → Option (List ℕ) → Option (List ℕ)
missing_window names None = None
missing_window names (Some name) = if has_name names name then None else Some name

-- a window of the name is asked for, and is not there
abbrev pub IsMissing : List (Option (List ℕ)) → List (List ℕ) → List ℕ → Type 0
IsMissing asked names name = Contains asked (Some name) × (has_name names name ≡ false)

-- the fault names such a window
abbrev pub LacksWindow : List (Option (List ℕ)) → List (List ℕ) → PolicyFault → Type 0
LacksWindow asked names e = (name : List ℕ) × IsMissing asked names name × (e ≡ fault.Unknown name)

-- the arrays of the three kinds of tables
abbrev pub CallersIn : Members → List CallerRow → Type 0
CallersIn = ListAt key.Callers (IsTable IsCallerTable) most_callers

abbrev pub WindowsIn : Members → List WindowRow → Type 0
WindowsIn = ListAt key.Windows (IsTable IsWindowTable) most_windows

abbrev pub RulesIn : Members → List RuleRow → Type 0
RulesIn = ListAt key.Rules (IsTable IsRuleTable) most_rules

-- the keys of a policy's table
abbrev pub policy_keys : List Key
policy_keys = key.Callers ∷ key.Windows ∷ key.Rules ∷ []

-- the table of a policy: it has the policy's entries in their order
pub record IsPolicyTable (ms : Members) (p : PolicyRows) : Type 0 where
  pub callers : CallersIn ms p.callers
  pub windows : WindowsIn ms p.windows
  pub rules : RulesIn ms p.rules
  pub distinct_callers : AreDistinct (caller_names p.callers)
  pub distinct_tokens : AreDistinct (caller_tokens p.callers)
  pub distinct_windows : AreDistinct (window_names p.windows)
  pub distinct_rules : AreDistinct (rule_names p.rules)
  pub windows_there : HaveWindows (rule_windows p.rules) (window_names p.windows)
  pub only : HasOnly policy_keys ms

-- what is wrong with one
pub data PolicyTableFault (ms : Members) (e : PolicyFault) : Type 0 where
  in_callers : FaultIn key.Callers (ListFault (TableFault CallerFault) most_callers) ms e → PolicyTableFault ms e
  in_windows : FaultIn key.Windows (ListFault (TableFault WindowFault) most_windows) ms e → PolicyTableFault ms e
  in_rules : FaultIn key.Rules (ListFault (TableFault RuleFault) most_rules) ms e → PolicyTableFault ms e
  repeated_caller : (cs : List CallerRow) → CallersIn ms cs → IsRepeated (caller_names cs) (caller_names cs) e → PolicyTableFault ms e
  repeated_token : (cs : List CallerRow) → CallersIn ms cs → IsRepeated (caller_tokens cs) (caller_names cs) e → PolicyTableFault ms e
  repeated_window : (ws : List WindowRow) → WindowsIn ms ws → IsRepeated (window_names ws) (window_names ws) e → PolicyTableFault ms e
  repeated_rule : (rs : List RuleRow) → RulesIn ms rs → IsRepeated (rule_names rs) (rule_names rs) e → PolicyTableFault ms e
  unknown_window : (ws : List WindowRow) (rs : List RuleRow) → WindowsIn ms ws → RulesIn ms rs → LacksWindow (rule_windows rs) (window_names ws) e → PolicyTableFault ms e
  other_key : HasOther policy_keys ms e → PolicyTableFault ms e

-- the text is TOML, and its table is the policy's
abbrev pub SpellsPolicy : List ℕ → PolicyRows → Type 0
SpellsPolicy text p = (ms : Members) × (parse_document text ≡ Some ms) × IsPolicyTable ms p

-- the text is no TOML, or something is wrong with its table
abbrev pub HasPolicyFault : List ℕ → PolicyFault → Type 0
HasPolicyFault text fault.Text = parse_document text ≡ None
HasPolicyFault text e = (ms : Members) × (parse_document text ≡ Some ms) × PolicyTableFault ms e
