-- What a plan shows in each of its states.
use Rattle.std.specs.Prelude.{List, Option, None, Some, IsSome}
use Rattle.std.specs.FinMap as map
use Rattle.fab_plans.specs.Plans.{PlanRows}
use Rattle.fab_plans.specs.declared.plan.Plan.{Plan}
use Rattle.fab_store_load.specs.fab_store_rows.declared.config_row.ConfigRow.{ConfigRow}
use Rattle.fab_store_load.specs.fab_store_rows.declared.listing.RowDifference.{RowDifference}
use Rattle.fab_store_load.specs.fab_store_rows.declared.record_row.PlanState.{PlanState}
use Rattle.fab_store_load.specs.fab_store_rows.declared.record_row.PlanState.TheVariants as state
use Rattle.fab_world.specs.PlanRecords.{Standing, staged, active, rolled_back, withdrawn, PlanRecord}
use Rattle.fab_world.specs.declared.any_plan.AnyPlan.{AnyPlan}
use Rattle.fab_world.specs.declared.any_plan.AnyPlan.TheVariants.{Staged, Active, RolledBack, Withdrawn}

-- a plan that stands so
abbrev pub seen_at : {A : Type 0} → Standing → Plan A → PlanRecord
seen_at standing p = record { author = p.author; steps = p.text; approvals = map.from_entries p.approvals.entries; standing = standing }

-- what a plan shows
abbrev pub plan_record : {A : Type 0} → AnyPlan A → PlanRecord
plan_record (Staged s) = seen_at staged s.plan
plan_record (Active a) = seen_at (active a.undo.taken.items a.undo.added.items) a.plan
plan_record (RolledBack r) = seen_at rolled_back r.plan
plan_record (Withdrawn w) = seen_at withdrawn w.plan

-- what it has in whatever state
abbrev pub plan_rows : PlanRecord → PlanRows
plan_rows p = record { author = p.author; steps = p.steps; approvals = p.approvals }

-- the state by its name
abbrev pub state_of : Standing → PlanState
state_of staged = state.Staged
state_of (active taken added) = state.Active
state_of rolled_back = state.RolledBack
state_of withdrawn = state.Withdrawn

-- what an activation changed: the rows that it took away, and those that it added
pub record Change : Type 0 where
  pub taken : List ConfigRow
  pub added : List ConfigRow

-- the change that a difference of rows is
abbrev pub change_in : {A : Type 0} → RowDifference A → Change
change_in d = record { taken = d.taken.items; added = d.added.items }

-- what undoes an active plan
abbrev pub undo_of : Standing → Option Change
undo_of (active taken added) = Some (record { taken = taken; added = added })
undo_of _ = None

-- the activation of the plan is in force
abbrev pub IsActive : PlanRecord → Type 0
IsActive p = IsSome (undo_of p.standing)
