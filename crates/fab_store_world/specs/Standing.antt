-- Which rows of plans, of approvals and of changes to undo stand in a world.
use Rattle.std.specs.Prelude.{ℕ, ◌≡◌, List, Some}
use Rattle.std.specs.FinMap as map
use Rattle.fab_reach_base.specs.fab_lemmas.Firsts.{HasAt}
use Rattle.fab_world.specs.fab_store_rows.PlanEntries.{PlanEntry}
use Rattle.fab_world.specs.fab_store_rows.declared.record_row.ApprovalRow.{ApprovalRow}
use Rattle.fab_world.specs.fab_store_rows.declared.record_row.UndoRow.{UndoRow}
use Rattle.fab_store_world.specs.Positions.{IsPosition, IsOrder}
use Rattle.fab_world.specs.fab_plans_base.Plans.{Spells, IsWithinLimits, plan_text}
use Rattle.fab_store_world.specs.PlanRows.{IsRowOf, IsApprovalOf, IsChanged}
use Rattle.fab_world.specs.PlanRecords.{PlanRecord}
use Rattle.fab_world.specs.Plans.{state_of}
use Rattle.fab_world.specs.Worlds.{WorldRows}

-- the row is that of the plan of its name, at the plan's position
pub record IsPlanRow (w : WorldRows) (r : PlanEntry) : Type 0 where
  pub plan : HasAt (map.get w.plans) (IsRowOf r) r.name
  pub position : IsPosition w.order r.name r.position

-- the row of the plan of this name at this position
abbrev pub plan_row : List ℕ → PlanRecord → ℕ → PlanEntry
plan_row name p k = record { name = name; author = p.author; text = plan_text p.steps; state = state_of p.standing; position = k }

-- the caller approved the plan, the last time at this revision
abbrev pub IsApprovalRow : WorldRows → ApprovalRow → Type 0
IsApprovalRow w r = HasAt (map.get w.plans) (IsApprovalOf r) r.plan

-- the plan is active, and its activation took the row away, or added it
abbrev pub IsUndoRow : WorldRows → UndoRow → Type 0
IsUndoRow w r = HasAt (map.get w.plans) (λ (p : PlanRecord). IsChanged p.standing r.sign r.row) r.plan

-- each name is in the order of the world once, as in that of a sound world
abbrev pub IsOrdered : WorldRows → Type 0
IsOrdered w = IsOrder w.order

-- ---- plans that have rows

-- the printed form of the steps of each plan that is within the limits spells them: so it has a row
abbrev pub HaveRows : WorldRows → Type 0
HaveRows w = (n : List ℕ) (p : PlanRecord) → map.get w.plans n ≡ Some p → IsWithinLimits p.steps → Spells (plan_text p.steps) p.steps

-- ---- rows of one, and not of another

-- the row stands in the one, and not in the other
abbrev pub Lacking : {W R : Type 0} → (W → R → Type 0) → W → W → R → Type 0
Lacking Stands other w r = Stands w r × ¬ Stands other r
