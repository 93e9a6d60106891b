-- Why no command meets a rule of a policy, and which actions no rule is about.
use Rattle.std.specs.Prelude.{ℕ, Bool, true, false, not, ◌&&◌, nat_lt, nat_eq, length, List, [], ◌∷◌, Option, Some, None, count_by}
use Rattle.std.specs.List.{list_any}
use Rattle.fab_names.specs.declared.fabric.Fabric.{Fabric}
use Rattle.fab_policy_base.specs.Callers.{is_same, has_name}
use Rattle.fab_policy_base.specs.Policies.{CallerRow, WindowRow, RuleRow, PolicyRows}
use Rattle.fab_policy_base.specs.declared.policy.Action.{Action}
use Rattle.fab_policy_base.specs.declared.policy.Action.TheVariants.{Import, Inventory, Stage, Withdraw, Approve, DryRun, Activate, Rollback}
use Rattle.fab_policy_base.specs.declared.policy.Quorum.{Quorum}
use Rattle.fab_policy.specs.Verdicts.{has_role}
use Rattle.fab_policy_looks.specs.declared.warnings.Warning.{Warning}
use Rattle.fab_policy_looks.specs.declared.warnings.Warning.TheVariants as warning

-- every action
abbrev pub all_actions : List Action
all_actions = Import ∷ Inventory ∷ Stage ∷ Withdraw ∷ Approve ∷ DryRun ∷ Activate ∷ Rollback ∷ []

-- whether a command of the action may name a fabric: all do but puts and drops
abbrev pub names_fabric : Action → Bool
names_fabric Inventory = false
names_fabric other = true

-- whether a command of the action is about a plan
abbrev pub is_of_plan : Action → Bool
is_of_plan Import = false
is_of_plan Inventory = false
is_of_plan other = true

-- whether some caller has the role
abbrev pub some_has : List CallerRow → List ℕ → Bool
some_has cs role = list_any (λ c. has_name c.roles role) cs

-- whether the window has the name, and a part of the week
abbrev pub opens_as : List ℕ → WindowRow → Bool
opens_as name w = is_same w.name name && not (nat_eq (length w.weekly) 0)

abbrev pub warning_if : Bool → Warning → Option Warning
warning_if true w = Some w
warning_if false w = None

-- the place of an action among all
abbrev pub number_of : Action → ℕ
number_of Import = 0
number_of Inventory = 1
number_of Stage = 2
number_of Withdraw = 3
number_of Approve = 4
number_of DryRun = 5
number_of Activate = 6
number_of Rollback = 7

abbrev pub is_action : Action → Action → Bool
is_action one other = nat_eq (number_of one) (number_of other)

abbrev pub has_action : Action → RuleRow → Bool
has_action a r = list_any (λ one. is_action one a) r.actions

-- it is about a fabric, and no command of its actions names one
abbrev pub fabric_flaw_in : Option Fabric → ℕ → RuleRow → Option Warning
fabric_flaw_in None n r = None
fabric_flaw_in (Some fabric) n r = warning_if (not (list_any names_fabric r.actions)) (warning.Fabric n r.name)

abbrev pub fabric_flaw : ℕ → RuleRow → Option Warning
fabric_flaw n r = fabric_flaw_in r.fabric n r

-- no caller has the role that it asks for
abbrev pub role_flaw_in : PolicyRows → Option (List ℕ) → ℕ → RuleRow → Option Warning
role_flaw_in p None n r = None
role_flaw_in p (Some role) n r = warning_if (not (some_has p.callers role)) (warning.Role n r.name role)

abbrev pub role_flaw : PolicyRows → ℕ → RuleRow → Option Warning
role_flaw p n r = role_flaw_in p r.role n r

-- no window of the name that it asks for has a part of the week
abbrev pub window_flaw_in : PolicyRows → Option (List ℕ) → ℕ → RuleRow → Option Warning
window_flaw_in p None n r = None
window_flaw_in p (Some window) n r = warning_if (not (list_any (opens_as window) p.windows)) (warning.Window n r.name window)

abbrev pub window_flaw : PolicyRows → ℕ → RuleRow → Option Warning
window_flaw p n r = window_flaw_in p r.window n r

-- it asks for approvals, and no command of its actions is about a plan
abbrev pub plan_flaw_in : Option Quorum → ℕ → RuleRow → Option Warning
plan_flaw_in None n r = None
plan_flaw_in (Some q) n r = warning_if (not (list_any is_of_plan r.actions)) (warning.Plan n r.name)

abbrev pub plan_flaw : ℕ → RuleRow → Option Warning
plan_flaw n r = plan_flaw_in r.approvals n r

-- it asks for approvals of a command before which a plan has none
abbrev pub early_flaw_in : Option Quorum → ℕ → RuleRow → Action → Option Warning
early_flaw_in None n r a = None
early_flaw_in (Some q) n r a = warning_if (has_action a r) (warning.Early n r.name a)

abbrev pub early_flaw : ℕ → RuleRow → Action → Option Warning
early_flaw n r a = early_flaw_in r.approvals n r a

-- fewer callers have the role of its approvers than it asks for
abbrev pub quorum_flaw : List CallerRow → ℕ → List ℕ → Quorum → Option Warning
quorum_flaw cs n name q = warning_if (nat_lt (count_by (has_role q.approver) cs) q.count) (warning.Approvals n name q.count (count_by (has_role q.approver) cs))

abbrev pub approvals_flaw_in : List CallerRow → Option Quorum → ℕ → List ℕ → Option Warning
approvals_flaw_in cs None n name = None
approvals_flaw_in cs (Some q) n name = quorum_flaw cs n name q

abbrev pub approvals_flaw : PolicyRows → ℕ → RuleRow → Option Warning
approvals_flaw p n r = approvals_flaw_in p.callers r.approvals n r.name

-- each reason that there may be for which no command meets the rule of this number, or none of an action of it
abbrev pub flaws_of : PolicyRows → ℕ → RuleRow → List (Option Warning)
flaws_of p n r =
    fabric_flaw n r ∷ role_flaw p n r ∷ window_flaw p n r ∷ plan_flaw n r ∷ early_flaw n r Stage ∷ early_flaw n r Approve ∷ approvals_flaw p n r ∷ []

-- ---- actions that no rule is about

abbrev pub unruled : List RuleRow → Action → Option Warning
unruled rules a = warning_if (not (list_any (has_action a) rules)) (warning.Unruled a)
