-- What commands are about.
use Rattle.std.specs.Prelude.{ℕ, ◌≡◌, ◌≤◌, List, length, Contains, Option, None, Some, Bool, true, false}
use Rattle.std.specs.FinMap as map
use Rattle.fab_reach_base.specs.fab_names.declared.fabric.Fabric.{Fabric}
use Rattle.fab_reach_base.specs.fab_inventory.Inventories.{IsCapacity}
use Rattle.fab_reach_base.specs.fab_inventory.Limits.{most_ports_of_holder}
use Rattle.fab_world.specs.fab_plans_base.Plans.{IsWithinLimits}
use Rattle.fab_world.specs.fab_plans_base.Steps.{PlanStep}
use Rattle.fab_world.specs.fab_plans.Steps.{fabric_of}
use Rattle.fab_policy.specs.fab_policy_base.declared.policy.Action.{Action}
use Rattle.fab_policy.specs.fab_policy_base.declared.policy.Action.TheVariants as action
use Rattle.fab_world.specs.PlanRecords.{PlanRecord}
use Rattle.fab_world.specs.Worlds.{WorldRows}
use Rattle.fab_desk_base.specs.declared.command.Command.{Command}
use Rattle.fab_desk_base.specs.declared.command.Command.TheVariants.{Import, PutHolder, PutVolume, DropHolder, DropVolume, Stage, Withdraw, Approve, DryRun, Activate, Rollback, Show}

-- some body gives the command's values
abbrev pub IsGiven : {A : Type 0} → Command A → Type 0
IsGiven (PutHolder kind n t ports) = length ports.items ≤ most_ports_of_holder
IsGiven (PutVolume n v) = IsCapacity v.bytes
IsGiven (Stage n steps) = IsWithinLimits steps.items
IsGiven _ = Unit {0}

-- what the command does, as a policy names it; a read has no action
abbrev pub action_of : {A : Type 0} → Command A → Option Action
action_of (Import f rows) = Some action.Import
action_of (PutHolder kind n t ports) = Some action.Inventory
action_of (PutVolume n v) = Some action.Inventory
action_of (DropHolder kind n) = Some action.Inventory
action_of (DropVolume n) = Some action.Inventory
action_of (Stage n steps) = Some action.Stage
action_of (Withdraw n) = Some action.Withdraw
action_of (Approve n) = Some action.Approve
action_of (DryRun n) = Some action.DryRun
action_of (Activate n) = Some action.Activate
action_of (Rollback n) = Some action.Rollback
action_of (Show q) = None

-- the command stages a plan
abbrev pub IsStaging : {A : Type 0} → Command A → Type 0
IsStaging (Stage n steps) = Unit {0}
IsStaging _ = ⊥

-- whether the revision counts the command
abbrev pub is_counted : {A : Type 0} → Command A → Bool
is_counted (Stage n steps) = false
is_counted (Withdraw n) = false
is_counted (Approve n) = false
is_counted (DryRun n) = false
is_counted (Show q) = false
is_counted _ = true

-- the command as it is tried: a dry run tries the activation
abbrev pub tried : {A : Type 0} → Command A → Command A
tried (DryRun n) = Activate n
tried c = c

-- the plan that the command is about, which has to be there
abbrev pub plan_of : {A : Type 0} → Command A → Option (List ℕ)
plan_of (Withdraw n) = Some n
plan_of (Approve n) = Some n
plan_of (DryRun n) = Some n
plan_of (Activate n) = Some n
plan_of (Rollback n) = Some n
plan_of _ = None

-- the plan of this name is there, and is this
abbrev pub IsPlan : WorldRows → List ℕ → PlanRecord → Type 0
IsPlan w n p = map.get w.plans n ≡ Some p

-- the plan that the command is about has the step
abbrev pub PlanHasStep : WorldRows → Option (List ℕ) → PlanStep → Type 0
PlanHasStep w None s = ⊥
PlanHasStep w (Some n) s = (p : PlanRecord) × IsPlan w n p × Contains p.steps s

-- a step of the command's plan: of the one that it stages, or of the one that it is about
abbrev pub HasStep : {A : Type 0} → WorldRows → Command A → PlanStep → Type 0
HasStep w (Stage n steps) s = Contains steps.items s
HasStep w c s = PlanHasStep w (plan_of c) s

-- the command names the fabric: an import its own, and a plan those of its steps of zoning
abbrev pub NamesFabric : {A : Type 0} → WorldRows → Command A → Fabric → Type 0
NamesFabric w (Import g rows) f = f ≡ g
NamesFabric w c f = (s : PlanStep) × HasStep w c s × (fabric_of s ≡ Some f)
