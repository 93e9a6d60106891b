-- Two rows are one, or they are not.
use Rattle.std.proofs.Common.{◌≡◌, ◌⊎◌, inl, inr, Bool, true, false, refl, sym, ap, ◌∙◌, subst}
use mathlib.Core.Bool.{true≢false}
use Rattle.std.specs.Ordering.{eq_by_cmp, is_eq}
use Rattle.std.specs.Cmp.{Equal-is, tied_itself}
use Rattle.fab_store_rows.specs.declared.config_row.ConfigRow.{ConfigRow}
use Rattle.fab_store_rows.specs.RowOrder.{row_cmp}
use Rattle.fab_store_rows.specs.OrderOfRows.{row_total, row_exact}

pub row_or : (a b : ConfigRow) → (a ≡ b) ⊎ ¬ (a ≡ b)
row_or a b = by (eq_by_cmp row_cmp a b) refl
  where
    by : (t : Bool) → eq_by_cmp row_cmp a b ≡ t → (a ≡ b) ⊎ ¬ (a ≡ b)
    by true e = inl (row_exact a b ((Equal-is (row_cmp a b)).0 e))
    by false e = inr (λ same. true≢false (sym (subst (λ (x : ConfigRow). eq_by_cmp row_cmp a x ≡ true) same (ap is_eq (tied_itself row_total a))) ∙ e))
