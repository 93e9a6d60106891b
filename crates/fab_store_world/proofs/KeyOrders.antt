-- The orders of keys are total.
use Rattle.std.proofs.Common.{ℕ, List, Bool}
use Rattle.std.specs.Cmp.{IsTotalOrder, bool_cmp_total, nat_cmp_total, then_total, on_total}
use Rattle.fab_reach_base.proofs.fab_names.OrderLaws.{name_total}
use Rattle.fab_world.specs.fab_store_rows.declared.config_row.ConfigRow.{ConfigRow}
use Rattle.fab_world.specs.fab_store_rows.OrderOfRows.{row_total}
use Rattle.fab_store_world.specs.Keys.{ApprovalKey, approval_cmp, UndoKey, undo_cmp}

pub approval_total : IsTotalOrder approval_cmp
approval_total = then_total (on_total (λ (e : ApprovalKey). e.0) name_total) (on_total (λ (e : ApprovalKey). e.1) (then_total (on_total (λ (e : List ℕ × ℕ). e.0) name_total) (on_total (λ (e : List ℕ × ℕ). e.1) nat_cmp_total)))

pub undo_total : IsTotalOrder undo_cmp
undo_total = then_total (on_total (λ (e : UndoKey). e.0) name_total) (on_total (λ (e : UndoKey). e.1) (then_total (on_total (λ (e : Bool × ConfigRow). e.0) bool_cmp_total) (on_total (λ (e : Bool × ConfigRow). e.1) row_total)))
