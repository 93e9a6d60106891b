-- A list of rows is in order where each row is before the next.
use Rattle.std.proofs.Common.{ℕ, zero, suc, ◌⊎◌, ◌≡◌, ◌<◌, ◌≤◌, ◌+◌, ◌-◌, inl, inr, List, length, get_or, true, sym, ap, ◌∙◌, subst, arith}
use Rattle.std.specs.declared.cmp.Ordering.{Ordering}
use Rattle.std.specs.declared.cmp.Ordering.TheVariants.{Less}
use Rattle.std.specs.Cmp.{IsTotalOrder}
use Rattle.std.specs.List.Sorted.{IsStrictlySortedBy}
use Rattle.std.proofs.lemmas.List.{get_or_default}
use Rattle.std.proofs.lemmas.Map.Keys.{sorted_from_all_adjacent, Less-from_sorted}
use Rattle.fab_reach_base.specs.fab_names.declared.fabric.Fabric.TheVariants.{A}
use Rattle.fab_store_rows.specs.declared.config_row.SettingRow.TheVariants.{DefaultZone}
use Rattle.fab_store_rows.specs.declared.config_row.ConfigRow.{ConfigRow}
use Rattle.fab_store_rows.specs.declared.config_row.ConfigRow.TheVariants as config
use Rattle.fab_store_rows.specs.RowOrder.{row_order}
use Rattle.fab_store_rows.specs.OrderOfRows.{row_total, same_order}

-- one number is at most another, or more
pub le_or : (m n : ℕ) → (m ≤ n) ⊎ (n < m)
le_or zero n = inl (omega arith)
le_or (suc m) zero = inr (omega arith)
le_or (suc m) (suc n) = elim (le_or m n) [ inl h ↦ inl (omega (arith, h)) | inr h ↦ inr (omega (arith, h)) ]

-- each row but the last is before the next, as far as i
abbrev pub InOrder : List ConfigRow → ℕ → Type 0
InOrder xs i = (k : ℕ) (d : ConfigRow) → k + 1 < i → row_order (get_or xs k d) (get_or xs (k + 1) d) ≡ Less

total : IsTotalOrder row_order
total = subst (λ (O : ConfigRow → ConfigRow → Ordering). IsTotalOrder O) same_order row_total

module _ (xs : List ConfigRow) (i : ℕ) (x y : ConfigRow) (some : 1 ≤ i) (h : i < length xs) (x_is : x ≡ get_or xs (i - 1) x) (y_is : y ≡ get_or xs i y) where
  pub order_next : InOrder xs i → row_order x y ≡ Less → InOrder xs (i + 1)
  order_next before less k d near = elim (le_or i (k + 1)) [
    | inr far ↦ before k d far
    | inl here ↦
        let one : k ≡ i - 1 = omega (arith, near, here) in
        let two : k + 1 ≡ i = omega (arith, near, here) in
        let first : get_or xs k d ≡ x = ap (λ n. get_or xs n d) one ∙ get_or_default xs (i - 1) d x (omega (arith, some, h)) ∙ sym x_is in
        let second : get_or xs (k + 1) d ≡ y = ap (λ n. get_or xs n d) two ∙ get_or_default xs i d y h ∙ sym y_is in
        (λ t. row_order (first t) (second t)) ∙ less
  ]

  pub order_here : IsStrictlySortedBy row_order xs → row_order x y ≡ Less
  order_here sorted =
      let second : y ≡ get_or xs i x = y_is ∙ get_or_default xs i y x h in
      (λ t. row_order (x_is t) (second t)) ∙ Less-from_sorted row_order xs (i - 1) i x sorted (omega (arith, some)) h

pub order_all : (xs : List ConfigRow) (i : ℕ) → length xs ≤ i → InOrder xs i → IsStrictlySortedBy row_order xs
order_all xs i end before = let d : ConfigRow = config.Setting (DefaultZone A true) in sorted_from_all_adjacent total xs d (λ k h. before k d (omega (arith, h, end)))
