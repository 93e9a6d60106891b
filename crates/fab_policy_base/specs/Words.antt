-- The words of a policy.
use Rattle.std.specs.Prelude.{ℕ, Bool, List, codes}
use Rattle.std.specs.List.{list_any}
use Rattle.fab_policy_base.specs.Callers.{is_same}
use Rattle.fab_policy_base.specs.declared.key.Key.{Key}
use Rattle.fab_policy_base.specs.declared.key.Key.TheVariants as key
use Rattle.fab_policy_base.specs.declared.policy.Action.{Action}
use Rattle.fab_policy_base.specs.declared.policy.Action.TheVariants as action
use Rattle.fab_policy_base.specs.declared.policy.Scope.{Scope}
use Rattle.fab_policy_base.specs.declared.policy.Scope.TheVariants as scope

-- the word for an action
abbrev pub action_word : Action → List ℕ
action_word action.Import = codes "import"
action_word action.Inventory = codes "inventory"
action_word action.Stage = codes "stage"
action_word action.Withdraw = codes "withdraw"
action_word action.Approve = codes "approve"
action_word action.DryRun = codes "dryrun"
action_word action.Activate = codes "activate"
action_word action.Rollback = codes "rollback"

-- the word for a scope
abbrev pub scope_word : Scope → List ℕ
scope_word scope.Own = codes "own"

-- the word for a key
abbrev pub key_word : Key → List ℕ
key_word key.Callers = codes "callers"
key_word key.Windows = codes "windows"
key_word key.Rules = codes "rules"
key_word key.Name = codes "name"
key_word key.Token = codes "token"
key_word key.Roles = codes "roles"
key_word key.Tenants = codes "tenants"
key_word key.Weekly = codes "weekly"
key_word key.Freeze = codes "freeze"
key_word key.Actions = codes "actions"
key_word key.Fabric = codes "fabric"
key_word key.Role = codes "role"
key_word key.Scope = codes "scope"
key_word key.Window = codes "window"
key_word key.Approvals = codes "approvals"
key_word key.Approver = codes "approver"
key_word key.Fresh = codes "fresh"
key_word key.EachTenant = codes "each_tenant"

-- whether the text is the word for one of the keys
abbrev pub is_word_of : List Key → List ℕ → Bool
is_word_of keys text = list_any (λ key. is_same (key_word key) text) keys
