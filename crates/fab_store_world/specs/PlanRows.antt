-- The rows of plans, of their approvals, and of what active plans changed.
use Rattle.std.specs.Prelude.{ℕ, ◌≡◌, List, slice_get, Contains, Option, Some}
use Rattle.std.specs.FinMap as map
use Rattle.std.specs.List.Sorted.{IsStrictlySortedBy}
use Rattle.fab_reach_base.specs.fab_lemmas.Firsts.{HasAt}
use Rattle.fab_world.specs.fab_store_load.Inventories.{AreAll}
use Rattle.fab_world.specs.fab_plans_text.KeptTexts.{IsTextOf}
use Rattle.fab_world.specs.fab_store_rows.declared.config_row.ConfigRow.{ConfigRow}
use Rattle.fab_world.specs.fab_store_rows.PlanEntries.{PlanEntry}
use Rattle.fab_world.specs.fab_store_rows.RowOrder.{row_order}
use Rattle.fab_world.specs.fab_store_rows.declared.record_row.ApprovalRow.{ApprovalRow}
use Rattle.fab_world.specs.fab_store_rows.declared.record_row.UndoRow.{UndoRow}
use Rattle.fab_world.specs.fab_store_rows.declared.record_row.Sign.{Sign}
use Rattle.fab_world.specs.fab_store_rows.declared.record_row.Sign.TheVariants.{Taken, Added}
use Rattle.fab_store_world.specs.Orders.{IsOrderOf}
use Rattle.fab_world.specs.PlanRecords.{Standing, active, PlanRecord}
use Rattle.fab_world.specs.Plans.{state_of}

-- the row is the plan's
pub record IsRowOf (r : PlanEntry) (p : PlanRecord) : Type 0 where
  pub author : p.author ≡ r.author
  pub text : IsTextOf r.text p.steps
  pub state : state_of p.standing ≡ r.state

-- the caller of the row approved the plan, the last time at its revision
abbrev pub IsApprovalOf : ApprovalRow → PlanRecord → Type 0
IsApprovalOf r p = map.get p.approvals r.caller ≡ Some r.revision

-- the activation that is in force took the row away, or added it
abbrev pub IsChanged : Standing → Sign → ConfigRow → Type 0
IsChanged (active taken added) Taken row = Contains taken row
IsChanged (active taken added) Added row = Contains added row
IsChanged _ sign row = ⊥

-- the rows are in order, each once
abbrev pub IsInOrder : List ConfigRow → Type 0
IsInOrder rows = IsStrictlySortedBy row_order rows

-- what the activation in force took away and added is in order
abbrev pub ChangesInOrder : Standing → Type 0
ChangesInOrder (active taken added) = IsInOrder taken × IsInOrder added
ChangesInOrder _ = Unit {0}

-- and so it is of each plan
abbrev pub ListInOrder : (List ℕ → Option PlanRecord) → Type 0
ListInOrder plans = (n : List ℕ) (p : PlanRecord) → plans n ≡ Some p → ChangesInOrder p.standing

-- no two rows have one name
abbrev pub HaveNames : List PlanEntry → Type 0
HaveNames rows = (i j : ℕ) (r s : PlanEntry) → slice_get rows i ≡ Some r → slice_get rows j ≡ Some s → r.name ≡ s.name → i ≡ j

-- the rows are those of the plans: each plan has one, under its name
pub record ArePlanRows (rows : List PlanEntry) (plans : List ℕ → Option PlanRecord) : Type 0 where
  pub each : (r : PlanEntry) → Contains rows r → HasAt plans (IsRowOf r) r.name
  pub every : (n : List ℕ) (p : PlanRecord) → plans n ≡ Some p → (r : PlanEntry) × Contains rows r × (r.name ≡ n)
  pub once : HaveNames rows

-- the rows are those of the plans' approvals
abbrev pub AreApprovalRows : List ApprovalRow → (List ℕ → Option PlanRecord) → Type 0
AreApprovalRows rows plans = AreAll rows (λ r. HasAt plans (IsApprovalOf r) r.plan)

-- the rows are those of what the activations in force took away and added
abbrev pub AreUndoRows : List UndoRow → (List ℕ → Option PlanRecord) → Type 0
AreUndoRows rows plans = AreAll rows (λ r. HasAt plans (λ (p : PlanRecord). IsChanged p.standing r.sign r.row) r.plan)

-- the rows of the three tables are those of the plans, whose activations are in force in this order
pub record ArePlans (rows : List PlanEntry) (approvals : List ApprovalRow) (undo : List UndoRow) (plans : List ℕ → Option PlanRecord) (order : List (List ℕ)) : Type 0 where
  pub rows_are : ArePlanRows rows plans
  pub approvals_are : AreApprovalRows approvals plans
  pub undo_are : AreUndoRows undo plans
  pub order_is : IsOrderOf rows order
