-- Words of the laws of what the desk answers.
use Rattle.std.specs.Prelude.{ℕ, ◌≡◌, ◌↔◌, List, Contains, None, IsSome}
use Rattle.fab_policy.specs.fab_policy_base.Policies.{RuleRow, PolicyRows}
use Rattle.fab_policy.specs.fab_policy_base.declared.policy.Action.{Action}
use Rattle.fab_policy.specs.fab_policy_base.declared.policy.Action.TheVariants as action
use Rattle.fab_reach_base.specs.declared.book.Delta.{Delta}
use Rattle.fab_world.specs.Worlds.{WorldRows}
use Rattle.fab_desk_base.specs.declared.fault.DeskFault.{DeskFault}
use Rattle.fab_desk_base.specs.declared.reply.Reply.{Reply}
use Rattle.fab_desk_base.specs.declared.reply.Reply.TheVariants as reply

-- ---- one answer

-- the command is refused
abbrev pub IsRefusal : {A : Type 0} → Reply A → Type 0
IsRefusal r = (f : DeskFault) × (r ≡ reply.Refused f)

-- the answers lead to one world, and refuse both or none
pub record Agree {A : Type 0} (r s : Reply A) (a b : WorldRows) : Type 0 where
  pub world : a ≡ b
  pub refused : IsRefusal r ↔ IsRefusal s

-- ---- what is told

-- the lists are the same
abbrev pub AreSameLists : {A : Type 0} → Delta A → Delta A → Type 0
AreSameLists d e = (d.gained.items ≡ e.gained.items) × (d.lost.items ≡ e.lost.items)

-- the replies tell the same: the values are equal, and lists have the same items
abbrev pub TellTheSame : {A : Type 0} → Reply A → Reply A → Type 0
TellTheSame (reply.Tried n d) (reply.Tried m e) = (n ≡ m) × AreSameLists d e
TellTheSame (reply.Reconfigured n d k) (reply.Reconfigured m e l) = (n ≡ m) × AreSameLists d e × (k ≡ l)
TellTheSame r s = r ≡ s

-- the dry run of the plan tells just what its activation gains and loses
abbrev pub TellsActivation : {A : Type 0} → List ℕ → Reply A → Reply A → Type 0
TellsActivation {A} n r s = (d : Delta A) × (e : Delta A) × (revision : ℕ) × (r ≡ reply.Tried n d) × (s ≡ reply.Reconfigured n e revision) × AreSameLists d e

-- ---- confinement

-- some rule for the action, whatever the fabric, asks that what is touched is the caller's own
abbrev pub IsScoped : PolicyRows → Action → Type 0
IsScoped p a = (r : RuleRow) × Contains p.rules r × Contains r.actions a × (r.fabric ≡ None) × IsSome r.scope

-- each action by which paths may come and go is scoped
pub record ConfinesPaths (p : PolicyRows) : Type 0 where
  pub imports : IsScoped p action.Import
  pub inventory : IsScoped p action.Inventory
  pub activations : IsScoped p action.Activate
  pub rollbacks : IsScoped p action.Rollback
