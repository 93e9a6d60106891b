-- What a command that is tried would make of the world, and when it is ready.
use Rattle.std.specs.Prelude.{ℕ, ◌≡◌, ◌⊎◌, List, Option, None, Some, Result, Ok, Err, Bool, true, false}
use Rattle.std.specs.FinMap as map
use Rattle.fab_reach_base.specs.fab_inventory.Inventories.{InventoryRows}
use Rattle.fab_reach_base.specs.Records.{Records}
use Rattle.fab_store_world.specs.Inventories.{IsInventoryDifference}
use Rattle.fab_store_world.specs.declared.inventories.InventoryDifference.{InventoryDifference}
use Rattle.fab_world.specs.Soundness.{IsSound}
use Rattle.fab_world.specs.Worlds.{WorldRows, records_of}
use Rattle.fab_desk_commands.specs.Nexts.{next_world, Suits, TellsRows}
use Rattle.fab_desk_commands.specs.Trials.{IsSoundAfter}
use Rattle.fab_desk_commands.specs.declared.next.Next.{Next}
use Rattle.fab_desk_commands.specs.declared.next.Next.TheVariants.{Same, Stock}
use Rattle.fab_desk_base.specs.Commands.{tried}
use Rattle.fab_desk_base.specs.Effects.{staged_plan, with_plan}
use Rattle.fab_desk_base.specs.Refusals.{IsEffect, MayCount}
use Rattle.fab_desk_base.specs.Trying.{IsMade}
use Rattle.fab_desk_base.specs.declared.command.Command.{Command}
use Rattle.fab_desk_base.specs.declared.command.Command.TheVariants.{Stage}
use Rattle.fab_desk_base.specs.declared.fault.DeskFault.{DeskFault}
use Rattle.fab_desk_base.specs.declared.fault.DeskFault.TheVariants as fault
use Rattle.fab_desk_trials.specs.declared.effects.Effect.{Effect}
use Rattle.fab_desk_trials.specs.declared.effects.Effect.TheVariants.{Parts, NewPlan}
use Rattle.fab_desk_trials.specs.declared.steps.Prepared.{Prepared}

-- ---- which world

-- the world with the plan that the command stages
abbrev pub planned : {A : Type 0} → WorldRows → List ℕ → Command A → WorldRows
planned w caller (Stage n steps) = with_plan n (staged_plan caller steps.items) w
planned w caller _ = w

-- the world after the effect
abbrev pub effect_world : {A : Type 0} → WorldRows → List ℕ → Command A → Effect A → WorldRows
effect_world w caller c (Parts next) = next_world w next
effect_world w caller c NewPlan = planned w caller c

-- the inventory after a command is its effect, with the rows in which it differs
abbrev pub IsStockEffect : {A : Type 0} → WorldRows → Result InventoryRows DeskFault → Effect A → Type 0
IsStockEffect {A} w r e = (v : InventoryRows) × (r ≡ Ok v) × ((change : InventoryDifference A) × (e ≡ Parts (Stock v change)) × IsInventoryDifference w.inventory v change)

-- why it has none: the refusal of the command, or there is no memory
abbrev pub IsStockFault : Result InventoryRows DeskFault → DeskFault → Type 0
IsStockFault r q = (q ≡ fault.Memory) ⊎ (r ≡ Err q)

-- the parts after a command on a plan are its effect
abbrev pub plan_effect : {A : Type 0} → Result (Next A) DeskFault → Result (Effect A) DeskFault
plan_effect (Ok next) = Ok (Parts next)
plan_effect (Err q) = Err q

-- a plan that was staged before stays, and else there is one more
abbrev pub staging_effect : {A : Type 0} → Result Bool DeskFault → Result (Effect A) DeskFault
staging_effect (Ok true) = Ok (Parts Same)
staging_effect (Ok false) = Ok NewPlan
staging_effect (Err q) = Err q

-- ---- when it is for the world

-- no plan has the name that the command gives its plan
abbrev pub IsNewPlan : {A : Type 0} → WorldRows → Command A → Type 0
IsNewPlan w (Stage n steps) = map.contains_key w.plans n ≡ false
IsNewPlan w _ = ⊥

-- the effect is for this world
abbrev pub EffectSuits : {A : Type 0} → WorldRows → Command A → Effect A → Type 0
EffectSuits w c (Parts next) = Suits w next
EffectSuits w c NewPlan = IsNewPlan w c

-- the effect tells the rows in which the inventory, or the configuration, differs
abbrev pub EffectTells : {A : Type 0} → WorldRows → Effect A → Type 0
EffectTells w (Parts next) = TellsRows w next
EffectTells w NewPlan = Unit {0}

-- the command would have the effect, the limits on paths and on changes aside
pub record IsTried {A : Type 0} (w : WorldRows) (caller : List ℕ) (c : Command A) (e : Effect A) : Type 0 where
  pub made : IsMade w caller (tried c) (effect_world w caller c e)
  pub suits : MayCount w (tried c) → EffectSuits w c e
  pub tells : EffectTells w e
  pub sound : IsSoundAfter w (tried c) (effect_world w caller c e)

-- the command has the effect
pub record HasEffect {A : Type 0} (w : WorldRows) (caller : List ℕ) (c : Command A) (e : Effect A) : Type 0 where
  pub is : IsEffect w caller c (effect_world w caller c e)
  pub suits : EffectSuits w c e
  pub sound : IsSound (effect_world w caller c e)

-- ---- the step of a book

-- the step leads from the one to the other; where there is none they are the same
abbrev pub IsStepReady : {R : Type 0} → (R → Records → Records → Type 0) → Records → Records → Option R → Type 0
IsStepReady leads old new None = new ≡ old
IsStepReady leads old new (Some ready) = leads ready old new

-- the command has the effect, and the book's step for it is ready
pub record IsPrepared {A R : Type 0} (leads : R → Records → Records → Type 0) (w : WorldRows) (caller : List ℕ) (c : Command A) (p : Prepared A R) : Type 0 where
  pub effect : HasEffect w caller c p.effect
  pub step : IsStepReady leads (records_of w) (records_of (effect_world w caller c p.effect)) p.step

-- ---- whether paths may move

-- the effect leaves the inventory and the configuration as they are
abbrev pub KeepsRecords : {A : Type 0} → WorldRows → List ℕ → Command A → Effect A → Type 0
KeepsRecords w caller c e = records_of (effect_world w caller c e) ≡ records_of w

-- the records are those after the effect
abbrev pub AreRecordsAfter : {A : Type 0} → WorldRows → List ℕ → Command A → Effect A → Records → Type 0
AreRecordsAfter w caller c e v = v ≡ records_of (effect_world w caller c e)
