-- The rows in which two worlds differ, kind by kind: words of the private functions.
use Rattle.std.specs.Prelude.{ℕ, ◌≡◌, List}
use Rattle.std.specs.declared.cmp.Ordering.{Ordering}
use Rattle.std.specs.FinMap as map
use Rattle.fab_reach_base.specs.fab_lemmas.Lists.{IsListOf}
use Rattle.fab_store_rows.specs.Differences.{IsDifference}
use Rattle.fab_store_world.specs.Inventories.{IsInventoryDifference}
use Rattle.fab_store_world.specs.Paths.{ArePathChanges}
use Rattle.fab_world.specs.PlanRecords.{PlanRecord}
use Rattle.fab_world.specs.Worlds.{WorldRows, records_of}
use Rattle.fab_store_world.specs.Keys.{plan_order, approval_order, undo_order}
use Rattle.fab_store_world.specs.Standing.{IsPlanRow, IsApprovalRow, IsUndoRow, Lacking}
use Rattle.fab_desk_commands.specs.Nexts.{order_after, plans_turned}
use Rattle.fab_desk_commands.specs.declared.next.Turn.{Turn}
use Rattle.fab_desk_rows.specs.declared.parts.Parts.{Parts}
use Rattle.fab_desk_rows.specs.declared.plans.PlanTables.{PlanTables}

-- the rows of a kind that stand before and not after, and those that stand after and not before
pub record AreMoved {R : Type 0} (O : R → R → Ordering) (Stands : WorldRows → R → Type 0) (before after : WorldRows) (xs ys : List R) : Type 0 where
  pub removed : IsListOf O (Lacking Stands after before) xs
  pub added : IsListOf O (Lacking Stands before after) ys

-- those of inventories, configurations and paths
pub record ArePartsMoved {A : Type 0} (before after : WorldRows) (p : Parts A) : Type 0 where
  pub inventory : IsInventoryDifference before.inventory after.inventory p.inventory
  pub config : IsDifference before.config after.config p.config.taken.items p.config.added.items
  pub paths : ArePathChanges (records_of before) (records_of after) p.paths.taken.items p.paths.added.items

-- those of the three tables of plans
pub record ArePlanTablesMoved {A : Type 0} (before after : WorldRows) (t : PlanTables A) : Type 0 where
  pub plans : AreMoved plan_order IsPlanRow before after t.plans.removed.items t.plans.added.items
  pub approvals : AreMoved approval_order IsApprovalRow before after t.approvals.removed.items t.approvals.added.items
  pub undo : AreMoved undo_order IsUndoRow before after t.undo.removed.items t.undo.added.items

-- ---- what becomes of plans

-- the plans and the order are the same
pub record HaveOnePlans (before after : WorldRows) : Type 0 where
  pub plans : after.plans ≡ before.plans
  pub order : after.order ≡ before.order

-- there is one plan more, and the order is the same
pub record IsStagedTo (before : WorldRows) (n : List ℕ) (p : PlanRecord) (after : WorldRows) : Type 0 where
  pub plans : after.plans ≡ map.insert before.plans n p
  pub order : after.order ≡ before.order

-- a plan took a turn, and the order went with it
pub record IsTurnedTo {A : Type 0} (before : WorldRows) (n : List ℕ) (t : Turn A) (after : WorldRows) : Type 0 where
  pub plans : after.plans ≡ plans_turned n t (map.get before.plans n) before.plans
  pub order : after.order ≡ order_after t n before.order
