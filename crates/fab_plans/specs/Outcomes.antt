-- The outcome of steps on a configuration beside an inventory.
use Rattle.std.specs.Prelude.{ℕ, ◌≡◌, ◌+◌, ◌⊎◌, List, [], ◌∷◌, take, slice_get, Some}
use Rattle.fab_reach_base.specs.fab_inventory.Inventories.{InventoryRows}
use Rattle.fab_reach_base.specs.fab_mapping_base.declared.nexus.Nexus.{Nexus}
use Rattle.fab_reach_base.specs.fab_mapping.Mappings.{IsLeastClash, HasNoClash}
use Rattle.fab_reach_base.specs.Records.{ConfigRows}
use Rattle.fab_plans_text.specs.fab_plans_base.Steps.{PlanStep}
use Rattle.fab_plans.specs.Steps.{StepDone, StepRefused}
use Rattle.fab_plans.specs.declared.fault.Refusal.{Refusal}
use Rattle.fab_plans.specs.declared.fault.Refusal.TheVariants.{Clash}
use Rattle.fab_plans.specs.declared.fault.TrialFault.{TrialFault}
use Rattle.fab_plans.specs.declared.fault.TrialFault.TheVariants.{Refused, Memory}

-- the steps are done in their order, and lead from one configuration to the other
abbrev pub AllDone : InventoryRows → List PlanStep → ConfigRows → ConfigRows → Type 0
AllDone v [] old new = new ≡ old
AllDone v (step ∷ steps) old new = (next : ConfigRows) × StepDone v step old next × AllDone v steps next new

-- the outcome is a configuration: all steps are done, and no unit clash stands at the end
pub record IsOutcome (v : InventoryRows) (steps : List PlanStep) (old new : ConfigRows) : Type 0 where
  pub done : AllDone v steps old new
  pub no_clash : HasNoClash new.mapping

-- the outcome is the refusal of a step: all before it are done, and there it is refused
pub record IsRefusedAt (v : InventoryRows) (steps : List PlanStep) (old : ConfigRows) (number : ℕ) (r : Refusal) : Type 0 where
  pub at : ℕ
  pub number_is : number ≡ at + 1
  pub step : PlanStep
  pub is : slice_get steps at ≡ Some step
  pub before : ConfigRows
  pub done : AllDone v (take at steps) old before
  pub refused : StepRefused v before step r

-- the outcome is a unit clash: all steps are done, and it is the least that stands at the end
pub record IsClashAtEnd (v : InventoryRows) (steps : List PlanStep) (old : ConfigRows) (number : ℕ) (r : Refusal) : Type 0 where
  pub number_is : number ≡ 0
  pub after : ConfigRows
  pub done : AllDone v steps old after
  pub nexus : Nexus
  pub least : IsLeastClash after.mapping nexus
  pub refusal : r ≡ Clash nexus

-- the outcome is a refusal, with the number of the step, or 0 for the end
abbrev pub IsRefusedOutcome : InventoryRows → List PlanStep → ConfigRows → ℕ → Refusal → Type 0
IsRefusedOutcome v steps old number r = IsRefusedAt v steps old number r ⊎ IsClashAtEnd v steps old number r

-- why a trial gives no configuration
abbrev pub IsTrialFault : InventoryRows → List PlanStep → ConfigRows → TrialFault → Type 0
IsTrialFault v steps old (Refused number r) = IsRefusedOutcome v steps old number r
IsTrialFault v steps old Memory = Unit {0}
