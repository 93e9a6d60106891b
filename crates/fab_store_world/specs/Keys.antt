-- The orders of rows of plans, of approvals and of changes to undo, by their keys.
use Rattle.std.specs.Prelude.{ℕ, List, Bool, true, false}
use Rattle.std.specs.declared.cmp.Ordering.{Ordering}
use Rattle.std.specs.Ordering.{nat_cmp, bool_cmp, then_cmp, on}
use Rattle.fab_reach_base.specs.fab_names.Orders.{name_cmp}
use Rattle.fab_world.specs.fab_store_rows.PlanEntries.{PlanEntry}
use Rattle.fab_world.specs.fab_store_rows.RowOrder.{row_cmp}
use Rattle.fab_world.specs.fab_store_rows.declared.config_row.ConfigRow.{ConfigRow}
use Rattle.fab_world.specs.fab_store_rows.declared.record_row.ApprovalRow.{ApprovalRow}
use Rattle.fab_world.specs.fab_store_rows.declared.record_row.UndoRow.{UndoRow}
use Rattle.fab_world.specs.fab_store_rows.declared.record_row.Sign.{Sign}
use Rattle.fab_world.specs.fab_store_rows.declared.record_row.Sign.TheVariants.{Taken, Added}

-- rows of plans: by name
abbrev pub plan_order : PlanEntry → PlanEntry → Ordering
plan_order = on (λ r. r.name) name_cmp

-- ---- rows of approvals: by plan, caller, revision

abbrev pub ApprovalKey : Type 0
ApprovalKey = List ℕ × (List ℕ × ℕ)

abbrev pub approval_cmp : ApprovalKey → ApprovalKey → Ordering
approval_cmp = then_cmp (on (λ e. e.0) name_cmp) (on (λ e. e.1) (then_cmp (on (λ e. e.0) name_cmp) (on (λ e. e.1) nat_cmp)))

abbrev pub approval_key : ApprovalRow → ApprovalKey
approval_key r = (r.plan, (r.caller, r.revision))

abbrev pub approval_order : ApprovalRow → ApprovalRow → Ordering
approval_order = on approval_key approval_cmp

-- ---- rows of changes to undo: by plan, what it took away before what it added, row

abbrev pub UndoKey : Type 0
UndoKey = List ℕ × (Bool × ConfigRow)

abbrev pub undo_cmp : UndoKey → UndoKey → Ordering
undo_cmp = then_cmp (on (λ e. e.0) name_cmp) (on (λ e. e.1) (then_cmp (on (λ e. e.0) bool_cmp) (on (λ e. e.1) row_cmp)))

abbrev pub is_added : Sign → Bool
is_added Taken = false
is_added Added = true

abbrev pub undo_key : UndoRow → UndoKey
undo_key r = (r.plan, (is_added r.sign, r.row))

abbrev pub undo_order : UndoRow → UndoRow → Ordering
undo_order = on undo_key undo_cmp
