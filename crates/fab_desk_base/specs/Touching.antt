-- Whose things a command touches.
use Rattle.std.specs.Prelude.{ℕ, ◌≡◌, ◌⊎◌, List, Contains}
use Rattle.fab_reach_base.specs.fab_inventory.declared.holder.HolderKind.TheVariants as kind
use Rattle.fab_reach_base.specs.Books.{IsGained}
use Rattle.fab_reach_base.specs.Records.{Records}
use Rattle.fab_reach_base.specs.declared.path.Path.{Path}
use Rattle.fab_world.specs.fab_plans_base.Steps.{PlanStep, host_group_put, host_group_drop, group_new, group_drop, group_host, group_unhost, group_target, group_untarget, group_map, group_unmap, group_expose, group_hide}
use Rattle.fab_world.specs.Worlds.{WorldRows, records_of}
use Rattle.fab_desk_base.specs.Commands.{HasStep}
use Rattle.fab_desk_base.specs.Refusals.{IsEffect}
use Rattle.fab_desk_base.specs.Tenants.{Thing, holder, volume, host_group, storage_group, IsTenantOf, IsPathOf}
use Rattle.fab_desk_base.specs.declared.command.Command.{Command}
use Rattle.fab_desk_base.specs.declared.command.Command.TheVariants.{PutHolder, PutVolume, DropHolder, DropVolume}

-- the step gives the tenant to what it makes
abbrev pub StepGives : PlanStep → List ℕ → Type 0
StepGives (host_group_put n t hs) x = x ≡ t
StepGives (group_new n t r) x = x ≡ t
StepGives _ x = ⊥

-- the step names the thing; arrays and ports that it names do not count
abbrev pub StepNames : PlanStep → Thing → Type 0
StepNames (host_group_put n t hs) x = (x ≡ host_group n) ⊎ ((h : List ℕ) × Contains hs h × (x ≡ holder kind.Host h))
StepNames (host_group_drop n) x = x ≡ host_group n
StepNames (group_new n t r) x = x ≡ storage_group n
StepNames (group_drop n) x = x ≡ storage_group n
StepNames (group_host n k) x = (x ≡ storage_group n) ⊎ (x ≡ host_group k)
StepNames (group_unhost n k) x = (x ≡ storage_group n) ⊎ (x ≡ host_group k)
StepNames (group_target n w) x = x ≡ storage_group n
StepNames (group_untarget n w) x = x ≡ storage_group n
StepNames (group_map n u v) x = (x ≡ storage_group n) ⊎ (x ≡ volume v)
StepNames (group_unmap n u) x = x ≡ storage_group n
StepNames (group_expose n) x = x ≡ storage_group n
StepNames (group_hide n) x = x ≡ storage_group n
StepNames _ x = ⊥

-- the command's body gives the tenant
abbrev pub BodyGives : {A : Type 0} → Command A → List ℕ → Type 0
BodyGives (PutHolder k n t ports) x = x ≡ t
BodyGives (PutVolume n v) x = x ≡ v.tenant
BodyGives _ x = ⊥

-- the command is about the host, the array or the volume
abbrev pub IsAbout : {A : Type 0} → Command A → Thing → Type 0
IsAbout (PutHolder k n t ports) x = x ≡ holder k n
IsAbout (PutVolume n v) x = x ≡ volume n
IsAbout (DropHolder k n) x = x ≡ holder k n
IsAbout (DropVolume n) x = x ≡ volume n
IsAbout _ x = ⊥

-- the command's body, or a step of its plan, gives the tenant
abbrev pub GivesTenant : {A : Type 0} → WorldRows → Command A → List ℕ → Type 0
GivesTenant w c t = BodyGives c t ⊎ ((s : PlanStep) × HasStep w c s × StepGives s t)

-- the command is about the thing, or a step of its plan names it
abbrev pub NamesThing : {A : Type 0} → WorldRows → Command A → Thing → Type 0
NamesThing w c x = IsAbout c x ⊎ ((s : PlanStep) × HasStep w c s × StepNames s x)

-- what the command names is the tenant's now
abbrev pub NamesTenant : {A : Type 0} → WorldRows → Command A → List ℕ → Type 0
NamesTenant w c t = (x : Thing) × NamesThing w c x × IsTenantOf (records_of w) x t

-- between the worlds a path of the tenant is gained, as it is after, or lost, as it was before
abbrev pub MovesPathOf : Records → Records → List ℕ → Type 0
MovesPathOf w v t = (x : Path) × ((IsGained w v x × IsPathOf v x t) ⊎ (IsGained v w x × IsPathOf w x t))

-- the effect of the command gains or loses a path of the tenant; where there is none, nothing is
-- gained or lost
abbrev pub MovesTenant : {A : Type 0} → WorldRows → List ℕ → Command A → List ℕ → Type 0
MovesTenant w caller c t = (new : WorldRows) × IsEffect w caller c new × MovesPathOf (records_of w) (records_of new) t

-- the command of this caller touches the tenant
abbrev pub Touches : {A : Type 0} → WorldRows → List ℕ → Command A → List ℕ → Type 0
Touches w caller c t = GivesTenant w c t ⊎ (NamesTenant w c t ⊎ MovesTenant w caller c t)
