-- A policy as lists of rows, apart from where it lies in memory.
use Rattle.std.specs.Prelude.{ℕ, List, Option, Some, None}
use Rattle.fab_names.specs.declared.fabric.Fabric.{Fabric}
use Rattle.fab_policy_base.specs.declared.policy.Action.{Action}
use Rattle.fab_policy_base.specs.declared.policy.Freeze.{Freeze}
use Rattle.fab_policy_base.specs.declared.policy.Quorum.{Quorum}
use Rattle.fab_policy_base.specs.declared.policy.Scope.{Scope}
use Rattle.fab_policy_base.specs.declared.policy.Tenants.{Tenants}
use Rattle.fab_policy_base.specs.declared.policy.Tenants.TheVariants.{All, Listed}
use Rattle.fab_policy_base.specs.declared.policy.WeekSpan.{WeekSpan}

-- the names of some tenants, or none, which stands for every tenant
abbrev pub TenantNames : Type 0
TenantNames = Option (List (List ℕ))

-- the tenants of a caller
abbrev pub tenants_of : Tenants → TenantNames
tenants_of All = None
tenants_of (Listed names) = Some names.items

-- somebody who sends requests
pub record CallerRow : Type 0 where
  pub name : List ℕ
  pub token : List ℕ
  pub roles : List (List ℕ)
  pub tenants : TenantNames

-- moments at which changes may be made
pub record WindowRow : Type 0 where
  pub name : List ℕ
  pub weekly : List WeekSpan
  pub freeze : List Freeze

-- the acts that a rule speaks of, and what it asks of them
pub record RuleRow : Type 0 where
  pub name : List ℕ
  pub actions : List Action
  pub fabric : Option Fabric
  pub role : Option (List ℕ)
  pub scope : Option Scope
  pub window : Option (List ℕ)
  pub approvals : Option Quorum

-- a policy, its rules in their order
pub record PolicyRows : Type 0 where
  pub callers : List CallerRow
  pub windows : List WindowRow
  pub rules : List RuleRow
