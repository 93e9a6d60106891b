-- Whose the parts of a command are, as they are gathered.
use Rattle.std.specs.Prelude.{ℕ, ◌≡◌, ◌⊎◌, List, Contains}
use Rattle.fab_reach_base.specs.fab_inventory.declared.holder.HolderKind.TheVariants as kind
use Rattle.fab_reach_base.specs.fab_inventory.Inventories.{InventoryRows}
use Rattle.fab_reach_base.specs.Reach.{IsInitiatorOf}
use Rattle.fab_reach_base.specs.Records.{Records}
use Rattle.fab_reach_base.specs.declared.path.Path.{Path}
use Rattle.fab_world.specs.fab_plans_base.Steps.{PlanStep}
use Rattle.fab_world.specs.Worlds.{WorldRows, records_of}
use Rattle.fab_desk_base.specs.Commands.{HasStep}
use Rattle.fab_desk_base.specs.Tenants.{Thing, IsTenantOf, IsHolderOf, IsVolumeOf, IsPathOf}
use Rattle.fab_desk_base.specs.Touching.{StepGives, StepNames}
use Rattle.fab_desk_base.specs.declared.command.Command.{Command}
use Rattle.fab_desk_base.specs.declared.command.Command.TheVariants.{PutHolder, PutVolume, DropHolder, DropVolume}

-- a host of the tenant holds the initiator port of this name
abbrev pub IsInitiatorTenant : Records → ℕ → List ℕ → Type 0
IsInitiatorTenant w initiator t = (h : List ℕ) × IsInitiatorOf w initiator h × IsHolderOf w.inventory kind.Host h t

-- the host or the volume of some path is the tenant's
abbrev pub IsOfSomePath : Records → List Path → List ℕ → Type 0
IsOfSomePath w paths t = (x : Path) × Contains paths x × IsPathOf w x t

-- a host of these names is the tenant's
abbrev pub IsOfSomeHost : Records → List (List ℕ) → List ℕ → Type 0
IsOfSomeHost w hosts t = (h : List ℕ) × Contains hosts h × IsHolderOf w.inventory kind.Host h t

-- the step gives the tenant, or what it names is the tenant's
abbrev pub IsOfStep : Records → PlanStep → List ℕ → Type 0
IsOfStep w s t = StepGives s t ⊎ ((x : Thing) × StepNames s x × IsTenantOf w x t)

-- some step gives the tenant, or names what is the tenant's
abbrev pub IsOfSomeStep : Records → List PlanStep → List ℕ → Type 0
IsOfSomeStep w steps t = (s : PlanStep) × Contains steps s × IsOfStep w s t

-- the command's body gives the tenant, or the command is about what is the tenant's
abbrev pub IsOfBody : {A : Type 0} → InventoryRows → Command A → List ℕ → Type 0
IsOfBody v (PutHolder k n u ports) t = (t ≡ u) ⊎ IsHolderOf v k n t
IsOfBody v (PutVolume n x) t = (t ≡ x.tenant) ⊎ IsVolumeOf v n t
IsOfBody v (DropHolder k n) t = IsHolderOf v k n t
IsOfBody v (DropVolume n) t = IsVolumeOf v n t
IsOfBody v _ t = ⊥

-- the command gives the tenant, or names what is the tenant's
abbrev pub IsOfCommand : {A : Type 0} → WorldRows → Command A → List ℕ → Type 0
IsOfCommand w c t = IsOfBody w.inventory c t ⊎ ((s : PlanStep) × HasStep w c s × IsOfStep (records_of w) s t)
