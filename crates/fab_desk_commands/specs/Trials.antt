-- What the calls that try a command give one another.
use Rattle.std.specs.Prelude.{ℕ, ◌≡◌, List, Some}
use Rattle.fab_reach_base.specs.fab_mapping.Gone.{IsFirstGone}
use Rattle.fab_reach_base.specs.Records.{ConfigRows}
use Rattle.fab_reach_base.specs.Serving.{IsServing}
use Rattle.fab_store_rows.specs.Differences.{IsDifference}
use Rattle.fab_world.specs.fab_plans_base.Steps.{PlanStep}
use Rattle.fab_world.specs.fab_plans.Outcomes.{IsRefusedOutcome}
use Rattle.fab_world.specs.History.{IsEarlier, IsOnlyEarlier}
use Rattle.fab_world.specs.PlanRecords.{PlanRecord}
use Rattle.fab_world.specs.Plans.{Change, undo_of}
use Rattle.fab_world.specs.Soundness.{IsSound}
use Rattle.fab_world.specs.Worlds.{WorldRows, records_of}
use Rattle.fab_desk_base.specs.Trying.{StaysSound}
use Rattle.fab_desk_base.specs.declared.command.Command.{Command}
use Rattle.fab_desk_base.specs.declared.fault.DeskFault.{DeskFault}
use Rattle.fab_desk_base.specs.declared.fault.DeskFault.TheVariants.{Gone, Memory, Plan}
use Rattle.fab_desk_commands.specs.declared.next.Next.{Next}
use Rattle.fab_desk_commands.specs.declared.next.Next.TheVariants.{Reconfigured}
use Rattle.fab_desk_commands.specs.declared.next.Turn.TheVariants.{RolledBack}

-- ---- the world after a command

-- where the world before is sound, books may stand at this one, whatever the limits on paths and on
-- changes, and it is sound if they are kept
pub record IsSoundAfter {A : Type 0} (w : WorldRows) (c : Command A) (new : WorldRows) : Type 0 where
  pub serves : IsSound w → IsServing (records_of new)
  pub sound : StaysSound w c new

-- ---- activation

-- why steps have no outcome: they are refused, or there is no memory
abbrev pub IsOutcomeFault : WorldRows → List PlanStep → DeskFault → Type 0
IsOutcomeFault w steps (Plan number refusal) = IsRefusedOutcome w.inventory steps w.config number refusal
IsOutcomeFault w steps Memory = Unit {0}
IsOutcomeFault w steps _ = ⊥

-- ---- rollback

-- what undoes the plan leads back to a configuration
abbrev pub HasEarlier : WorldRows → PlanRecord → Type 0
HasEarlier w p = (change : Change) × (undo_of p.standing ≡ Some change) × ((before : ConfigRows) × IsEarlier w.config change before)

-- what undoes the plan leads back to this configuration, and to no other
abbrev pub IsBeforePlan : WorldRows → PlanRecord → ConfigRows → Type 0
IsBeforePlan w p before = (change : Change) × (undo_of p.standing ≡ Some change) × IsOnlyEarlier w.config change before

-- the parts are those of a rollback that leads to the configuration
abbrev pub IsRollback : {A : Type 0} → WorldRows → List ℕ → ConfigRows → Next A → Type 0
IsRollback w n c (Reconfigured config m (RolledBack change)) = (config ≡ c) × (m ≡ n) × IsDifference w.config c change.taken.items change.added.items
IsRollback w n c _ = ⊥

-- why there is no way back: something is gone that the configuration from before the plan names, or
-- there is no memory
abbrev pub IsRestoreFault : WorldRows → PlanRecord → DeskFault → Type 0
IsRestoreFault w p (Gone g) = (before : ConfigRows) × IsBeforePlan w p before × IsFirstGone w.inventory before.mapping g
IsRestoreFault w p Memory = Unit {0}
IsRestoreFault w p _ = ⊥
