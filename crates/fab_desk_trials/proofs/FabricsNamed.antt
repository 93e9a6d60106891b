-- Which fabrics a command names.
use Rattle.std.proofs.Common.{◌≡◌, ◌↔◌, List, Contains, Some, Bool, IsTrue, Vec, refl}
use Rattle.fab_reach_base.specs.fab_names.declared.fabric.Fabric.{Fabric}
use Rattle.fab_reach_base.specs.fab_inventory.declared.port.PortRow.{PortRow}
use Rattle.fab_world.specs.fab_plans.Steps.{fabric_of}
use Rattle.fab_world.specs.fab_plans_base.Steps.{PlanStep}
use Rattle.fab_world.specs.Worlds.{WorldRows}
use Rattle.fab_desk_base.specs.Commands.{HasStep, NamesFabric}
use Rattle.fab_desk_base.specs.declared.command.Command.{Command}
use Rattle.fab_desk_base.specs.declared.command.Command.TheVariants.{Import, PutHolder, PutVolume, DropHolder, DropVolume, Stage, Withdraw, Approve, DryRun, Activate, Rollback, Show}

-- a step of the command's plan is of the fabric
abbrev HasStepOf : {A : Type 0} → WorldRows → Command A → Fabric → Type 0
HasStepOf w c f = (s : PlanStep) × HasStep w c s × (fabric_of s ≡ Some f)

-- what is no import names the fabrics of its steps
unimported : {A : Type 0} (w : WorldRows) (c : Command A) (f : Fabric) → ((g : Fabric) (rows : Vec PortRow A) → c ≡ Import g rows → ⊥) → NamesFabric w c f ↔ HasStepOf w c f
unimported w (Import g rows) f not = absurd (not g rows refl)
unimported w (PutHolder k n t ports) f not = (λ h. h, λ h. h)
unimported w (PutVolume n v) f not = (λ h. h, λ h. h)
unimported w (DropHolder k n) f not = (λ h. h, λ h. h)
unimported w (DropVolume n) f not = (λ h. h, λ h. h)
unimported w (Stage n steps) f not = (λ h. h, λ h. h)
unimported w (Withdraw n) f not = (λ h. h, λ h. h)
unimported w (Approve n) f not = (λ h. h, λ h. h)
unimported w (DryRun n) f not = (λ h. h, λ h. h)
unimported w (Activate n) f not = (λ h. h, λ h. h)
unimported w (Rollback n) f not = (λ h. h, λ h. h)
unimported w (Show q) f not = (λ h. h, λ h. h)

-- whether some step of the plan is of the fabric
pub steps_name : {A : Type 0} (w : WorldRows) (c : Command A) (f : Fabric) (steps : List PlanStep) (b : Bool) → ((g : Fabric) (rows : Vec PortRow A) → c ≡ Import g rows → ⊥) → ((s : PlanStep) → Contains steps s ↔ HasStep w c s) → IsTrue b ↔ ((s : PlanStep) × Contains steps s × (fabric_of s ≡ Some f)) → IsTrue b ↔ NamesFabric w c f
steps_name w c f steps b not all is = (
  λ h. let s = is.0 h in (unimported w c f not).1 (s.0, (all s.0).0 s.1, s.2),
  λ h. let s = (unimported w c f not).0 h in is.1 (s.0, (all s.0).1 s.1, s.2),
)
