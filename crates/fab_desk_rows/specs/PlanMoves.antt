-- The rows of approvals, and of what activations changed, of one plan: words of the private
-- functions.
use Rattle.std.specs.Prelude.{ℕ, ◌≡◌, ◌⊎◌, List, [], ◌∷◌, ◌++◌, Option, Some}
use Rattle.std.specs.declared.cmp.Ordering.{Ordering}
use Rattle.fab_reach_base.specs.fab_lemmas.Lists.{IsListOf}
use Rattle.fab_store_rows.specs.declared.config_row.ConfigRow.{ConfigRow}
use Rattle.fab_store_rows.specs.declared.record_row.ApprovalRow.{ApprovalRow}
use Rattle.fab_store_rows.specs.declared.record_row.UndoRow.{UndoRow}
use Rattle.fab_store_rows.specs.declared.record_row.Sign.{Sign}
use Rattle.fab_store_world.specs.PlanRows.{IsApprovalOf, IsChanged}
use Rattle.fab_world.specs.PlanRecords.{PlanRecord, active}
use Rattle.fab_store_world.specs.Keys.{approval_order, undo_order}

-- the plan is there, and has P
abbrev pub HasIn : Option PlanRecord → (PlanRecord → Type 0) → Type 0
HasIn o P = (p : PlanRecord) × (o ≡ Some p) × P p

-- the row is of the plan of this name, and P says it of the one and not of the other
abbrev pub IsOfOne : {R : Type 0} → (R → List ℕ) → (R → PlanRecord → Type 0) → List ℕ → Option PlanRecord → Option PlanRecord → R → Type 0
IsOfOne plan_of P n o other r = (plan_of r ≡ n) × HasIn o (P r) × ¬ HasIn other (P r)

-- the rows of the plan of this name that P says of it before and not after, and after and not before
pub record AreOfOne {R : Type 0} (O : R → R → Ordering) (plan_of : R → List ℕ) (P : R → PlanRecord → Type 0) (n : List ℕ) (before after : Option PlanRecord) (xs ys : List R) : Type 0 where
  pub removed : IsListOf O (IsOfOne plan_of P n before after) xs
  pub added : IsListOf O (IsOfOne plan_of P n after before) ys

-- ---- approvals

-- the row is put behind the others, where P holds
abbrev pub IsPushed : {R : Type 0} → Type 0 → R → List R → List R → Type 0
IsPushed P r old new = (P × (new ≡ old ++ r ∷ [])) ⊎ ((¬ P) × (new ≡ old))

-- the row of an approval of the plan that is among the ones and not among the others
abbrev pub IsGivenOnlyIn : List ℕ → (List ℕ → Option ℕ) → (List ℕ → Option ℕ) → ApprovalRow → Type 0
IsGivenOnlyIn n given others r = (r.plan ≡ n) × (given r.caller ≡ Some r.revision) × ¬ (others r.caller ≡ Some r.revision)

abbrev pub AreApprovalsMoved : List ℕ → Option PlanRecord → Option PlanRecord → List ApprovalRow → List ApprovalRow → Type 0
AreApprovalsMoved = AreOfOne approval_order (λ r. r.plan) IsApprovalOf

-- ---- changes to undo

abbrev pub undo_row : List ℕ → Sign → ConfigRow → UndoRow
undo_row n sign row = record { plan = n; sign = sign; row = row }

-- the plan's activation took the row away, or added it
abbrev pub IsUndoOf : List ℕ → List ConfigRow → List ConfigRow → UndoRow → Type 0
IsUndoOf n taken added r = (r.plan ≡ n) × IsChanged (active taken added) r.sign r.row

-- the activation of the plan, which is in force, took the row of it away, or added it
abbrev pub IsUndoRowOf : UndoRow → PlanRecord → Type 0
IsUndoRowOf r p = IsChanged p.standing r.sign r.row

abbrev pub AreUndoMoved : List ℕ → Option PlanRecord → Option PlanRecord → List UndoRow → List UndoRow → Type 0
AreUndoMoved = AreOfOne undo_order (λ r. r.plan) IsUndoRowOf
