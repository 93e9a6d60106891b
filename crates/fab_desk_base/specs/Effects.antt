-- What each command makes of the world.
use Rattle.std.specs.Prelude.{ℕ, ◌≡◌, ◌+◌, ◌++◌, ◌⊎◌, List, [], ◌∷◌, None, Some}
use Rattle.std.specs.FinMap as map
use Rattle.fab_reach_base.specs.fab_inventory.Imports.{IsImported}
use Rattle.fab_reach_base.specs.fab_inventory.Inventories.{InventoryRows, IsHolderPut, IsHolderDropped}
use Rattle.fab_reach_base.specs.fab_inventory.Ports.{KnownPorts}
use Rattle.fab_reach_base.specs.Records.{ConfigRows}
use Rattle.fab_world.specs.fab_store_rows.Differences.{IsDifference}
use Rattle.fab_world.specs.fab_plans_base.Steps.{PlanStep}
use Rattle.fab_world.specs.fab_plans.Outcomes.{IsOutcome}
use Rattle.fab_world.specs.History.{IsEarlier}
use Rattle.fab_world.specs.PlanRecords.{PlanRecord, staged, active, rolled_back, withdrawn}
use Rattle.fab_world.specs.Plans.{Change, undo_of}
use Rattle.fab_world.specs.Worlds.{WorldRows}
use Rattle.fab_desk_base.specs.Commands.{IsPlan}
use Rattle.fab_desk_base.specs.declared.command.Command.{Command}
use Rattle.fab_desk_base.specs.declared.command.Command.TheVariants.{Import, PutHolder, PutVolume, DropHolder, DropVolume, Stage, Withdraw, Approve, Activate, Rollback}

-- the world after one change more
abbrev pub counted : WorldRows → WorldRows
counted w = record w { revision = w.revision + 1 }

-- the world with another inventory
abbrev pub with_inventory : InventoryRows → WorldRows → WorldRows
with_inventory v w = record w { inventory = v }

-- the world with this plan under the name
abbrev pub with_plan : List ℕ → PlanRecord → WorldRows → WorldRows
with_plan n p w = record w { plans = map.insert w.plans n p }

-- a plan that an author stages
abbrev pub staged_plan : List ℕ → List PlanStep → PlanRecord
staged_plan author steps = record { author = author; steps = steps; approvals = map.empty; standing = staged }

-- the author staged these steps under the name before
abbrev pub IsStagedAlready : WorldRows → List ℕ → List ℕ → List PlanStep → Type 0
IsStagedAlready w author n steps = (p : PlanRecord) × IsPlan w n p × (p.author ≡ author) × (p.steps ≡ steps)

-- the ports of the fabric are as listed
abbrev pub ImportMakes : WorldRows → WorldRows → KnownPorts → Type 0
ImportMakes old new ports = new ≡ counted (with_inventory (record old.inventory { ports = ports }) old)

-- the plan is there, or was staged just so before, and then nothing is changed
abbrev pub StageMakes : WorldRows → List ℕ → List ℕ → List PlanStep → WorldRows → Type 0
StageMakes old author n steps new = (IsStagedAlready old author n steps × (new ≡ old)) ⊎ ((map.get old.plans n ≡ None) × (new ≡ with_plan n (staged_plan author steps) old))

-- the configuration is the outcome of the plan's steps, and the plan is the last in force, with
-- what it took away and added
pub record ActivateMakes (old : WorldRows) (n : List ℕ) (new : WorldRows) : Type 0 where
  pub plan : PlanRecord
  pub is : IsPlan old n plan
  pub config : ConfigRows
  pub outcome : IsOutcome old.inventory plan.steps old.config config
  pub change : Change
  pub differs : IsDifference old.config config change.taken change.added
  pub makes : new ≡ counted (with_plan n (record plan { standing = active change.taken change.added }) (record old { config = config; order = old.order ++ (n ∷ []) }))

-- the configuration from before the activation of the plan, which is in force
pub record IsBefore (w : WorldRows) (n : List ℕ) (plan : PlanRecord) (before : ConfigRows) : Type 0 where
  pub is : IsPlan w n plan
  pub change : Change
  pub undo : undo_of plan.standing ≡ Some change
  pub earlier : IsEarlier w.config change before

-- the plan is the last in force: these are before it
abbrev pub IsLastAfter : WorldRows → List (List ℕ) → List ℕ → Type 0
IsLastAfter w rest n = w.order ≡ rest ++ (n ∷ [])

-- the configuration is that from before the activation of the last plan in force, which then is no
-- longer; the inventory stays
pub record RollbackMakes (old : WorldRows) (n : List ℕ) (new : WorldRows) : Type 0 where
  pub plan : PlanRecord
  pub before : ConfigRows
  pub is : IsBefore old n plan before
  pub rest : List (List ℕ)
  pub last : IsLastAfter old rest n
  pub makes : new ≡ counted (with_plan n (record plan { standing = rolled_back }) (record old { config = before; order = rest }))

-- what the command makes of the world, where nothing refuses it; the caller of this name sends it
abbrev pub Makes : {A : Type 0} → WorldRows → List ℕ → Command A → WorldRows → Type 0
Makes old caller (Import f rows) new = (ports : KnownPorts) × IsImported f rows.items old.inventory.ports ports × ImportMakes old new ports
Makes old caller (PutHolder k n t ports) new = (v : InventoryRows) × IsHolderPut n (record { kind = k; tenant = t }) ports.items old.inventory v × (new ≡ counted (with_inventory v old))
Makes old caller (PutVolume n x) new = new ≡ counted (with_inventory (record old.inventory { volumes = map.insert old.inventory.volumes n x }) old)
Makes old caller (DropHolder k n) new = (v : InventoryRows) × IsHolderDropped n old.inventory v × (new ≡ counted (with_inventory v old))
Makes old caller (DropVolume n) new = new ≡ counted (with_inventory (record old.inventory { volumes = map.remove old.inventory.volumes n }) old)
Makes old caller (Stage n steps) new = StageMakes old caller n steps.items new
Makes old caller (Withdraw n) new = (p : PlanRecord) × IsPlan old n p × (new ≡ with_plan n (record p { standing = withdrawn }) old)
Makes old caller (Approve n) new = (p : PlanRecord) × IsPlan old n p × (new ≡ with_plan n (record p { approvals = map.insert p.approvals caller old.revision }) old)
Makes old caller (Activate n) new = ActivateMakes old n new
Makes old caller (Rollback n) new = RollbackMakes old n new
Makes old caller _ new = ⊥
