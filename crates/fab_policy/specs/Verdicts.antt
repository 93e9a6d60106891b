-- What a policy says of an act.
use Rattle.std.specs.Prelude.{◌≡◌, ℕ, ◌<◌, suc, zero, Bool, true, false, not, ◌&&◌, ◌||◌, nat_eq, nat_le, List, length, Option, Some, None, is_some, IfSome, Contains, All, Any, count_by, codes, slice_get, slice_index_or}
use Rattle.std.specs.List.{list_any, list_all, AllWithin}
use Rattle.fab_policy_base.specs.Callers.{is_same, has_name, has_tenant, lists_tenant}
use Rattle.fab_policy_base.specs.Policies.{CallerRow, WindowRow, RuleRow, PolicyRows}
use Rattle.fab_policy.specs.Windows.{is_open_as}
use Rattle.fab_policy.specs.declared.act.Act.{Act}
use Rattle.fab_policy.specs.declared.act.Approval.{Approval}
use Rattle.fab_policy.specs.declared.act.PlanApprovals.{PlanApprovals}
use Rattle.fab_policy.specs.declared.act.Need.{Need}
use Rattle.fab_policy.specs.declared.act.Need.TheVariants as need
use Rattle.fab_policy.specs.declared.act.Verdict.{Verdict}
use Rattle.fab_policy.specs.declared.act.Verdict.TheVariants.{Allowed, Denied}
use Rattle.fab_policy_base.specs.declared.policy.Quorum.{Quorum}

-- the action is among the rule's, and the rule's fabric, where it has one, is one that the act names
abbrev pub Applies : RuleRow → Act → Type 0
Applies r a = Contains r.actions a.action × IfSome r.fabric (λ f. Contains a.fabrics.now f)

-- whether the caller has the role, where one is asked for
abbrev pub has_role : Option (List ℕ) → CallerRow → Bool
has_role None c = true
has_role (Some role) c = has_name c.roles role

-- whether there is a caller with the role, where one is asked for
abbrev pub meets_role : Option (List ℕ) → Option CallerRow → Bool
meets_role None c = true
meets_role (Some role) None = false
meets_role (Some role) (Some c) = has_name c.roles role

-- whether there is a caller, whose is each of the tenants
abbrev pub is_own : List (List ℕ) → Option CallerRow → Bool
is_own tenants None = false
is_own tenants (Some c) = list_all (has_tenant c) tenants

-- whether a window of the name is open, where one is asked for
abbrev pub meets_window : List WindowRow → ℕ → Option (List ℕ) → Bool
meets_window ws moment None = true
meets_window ws moment (Some name) = list_any (is_open_as name moment) ws

-- whether it is an approval of the caller, at the present revision where it has to be fresh
abbrev pub is_approval_of : CallerRow → Bool → ℕ → Approval → Bool
is_approval_of c fresh revision x = is_same x.caller c.name && (not fresh || nat_eq x.revision revision)

-- whether some approval of the plan is the caller's, at the present revision where it has to be fresh
abbrev pub has_approved : PlanApprovals → ℕ → Bool → CallerRow → Bool
has_approved plan revision fresh c = list_any (is_approval_of c fresh revision) plan.approvals.now

-- whether the caller has approved the plan and is not its author
abbrev pub has_signed : PlanApprovals → ℕ → Bool → CallerRow → Bool
has_signed plan revision fresh c = not (is_same plan.author c.name) && has_approved plan revision fresh c

-- who counts for a quorum: a caller who has approved the plan, is not its author, and has the approver's role where one is asked for
abbrev pub counts : PlanApprovals → ℕ → Option (List ℕ) → Bool → CallerRow → Bool
counts plan revision approver fresh c = has_signed plan revision fresh c && has_role approver c

-- whether there is a plan for which as many callers count as are asked for, each of them once
abbrev pub has_quorum : List CallerRow → ℕ → Quorum → Option PlanApprovals → Bool
has_quorum cs revision q None = false
has_quorum cs revision q (Some plan) = nat_le q.count (count_by (counts plan revision q.approver q.fresh) cs)

-- whether the approvals that are asked for are there
abbrev pub meets_approvals : List CallerRow → Act → Option Quorum → Bool
meets_approvals cs a None = true
meets_approvals cs a (Some q) = has_quorum cs a.revision q a.plan

-- who signs for a tenant: a caller who counts for the quorum of a plan, and lists the tenant
abbrev pub signs_for : ℕ → Option (List ℕ) → Bool → Option PlanApprovals → List ℕ → CallerRow → Bool
signs_for revision approver fresh None tenant c = false
signs_for revision approver fresh (Some plan) tenant c = counts plan revision approver fresh c && lists_tenant c tenant

-- whether some caller signs for the tenant
abbrev pub is_signed_for : List CallerRow → ℕ → Option (List ℕ) → Bool → Option PlanApprovals → List ℕ → Bool
is_signed_for cs revision approver fresh plan tenant = list_any (signs_for revision approver fresh plan tenant) cs

-- whether each touched tenant is signed for
abbrev pub is_each_signed_for : List CallerRow → Act → Option (List ℕ) → Bool → Bool
is_each_signed_for cs a approver fresh = list_all (is_signed_for cs a.revision approver fresh a.plan) a.touched.now

-- whether it is, where that is asked for
abbrev pub meets_tenants : List CallerRow → Act → Option Quorum → Bool
meets_tenants cs a None = true
meets_tenants cs a (Some q) = not q.each_tenant || is_each_signed_for cs a q.approver q.fresh

-- whether the need, where the rule has it, is met
abbrev pub meets : PolicyRows → Act → RuleRow → Need → Bool
meets p a r need.Rule = true
meets p a r need.Role = meets_role r.role (slice_get p.callers a.caller)
meets p a r need.Scope = not (is_some r.scope) || is_own a.touched.now (slice_get p.callers a.caller)
meets p a r need.Window = meets_window p.windows a.moment r.window
meets p a r need.Approvals = meets_approvals p.callers a r.approvals
meets p a r need.Tenants = meets_tenants p.callers a r.approvals

-- the place of a need in their order
abbrev pub place_of : Need → ℕ
place_of need.Rule = 0
place_of need.Role = 1
place_of need.Scope = 2
place_of need.Window = 3
place_of need.Approvals = 4
place_of need.Tenants = 5

-- each need of the rule is met
abbrev pub Holds : PolicyRows → Act → RuleRow → Type 0
Holds p a r = (n : Need) → meets p a r n ≡ true

-- the need is not met, and each before it is
abbrev pub FailsFirst : PolicyRows → Act → RuleRow → Need → Type 0
FailsFirst p a r n = (meets p a r n ≡ false) × ((m : Need) → place_of m < place_of n → meets p a r m ≡ true)

-- some rule applies, and all that apply hold
pub record IsAllowed (p : PolicyRows) (a : Act) : Type 0 where
  pub some : Any (λ r. Applies r a) p.rules
  pub all : All (λ r. Applies r a → Holds p a r) p.rules

-- the rule at the place applies and does not hold, the need is the first that is not met, and each rule before it that applies holds
pub record IsDeniedBy (p : PolicyRows) (a : Act) (place : ℕ) (name : List ℕ) (n : Need) : Type 0 where
  pub rule : RuleRow
  pub within : place < length p.rules
  pub at : slice_index_or p.rules place rule ≡ rule
  pub applies : Applies rule a
  pub fails : FailsFirst p a rule n
  pub named : name ≡ rule.name
  pub before : AllWithin (λ r. Applies r a → Holds p a r) p.rules 0 place

-- no rule applies
pub record IsUnruled (p : PolicyRows) (a : Act) (name : List ℕ) (n : Need) : Type 0 where
  pub none : All (λ r. ¬ Applies r a) p.rules
  pub named : name ≡ codes "no-rule"
  pub need : n ≡ need.Rule

-- rules are numbered from 1
abbrev pub IsDenial : PolicyRows → Act → ℕ → List ℕ → Need → Type 0
IsDenial p a zero name n = IsUnruled p a name n
IsDenial p a (suc place) name n = IsDeniedBy p a place name n

-- the verdict of the policy on the act
abbrev pub IsVerdict : PolicyRows → Act → Verdict → Type 0
IsVerdict p a Allowed = IsAllowed p a
IsVerdict p a (Denied rule name n) = IsDenial p a rule name n
