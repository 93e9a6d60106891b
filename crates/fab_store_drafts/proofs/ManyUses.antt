-- The uses of many rows.
use Rattle.std.proofs.Common.{ℕ, ◌≡◌, ◌<◌, ◌≤◌, ◌+◌, inl, inr, List, [], ◌∷◌, ◌++◌, length, take, get_or, Contains, sym, subst, arith}
use Rattle.std.proofs.lemmas.List.{take_all}
use Rattle.std.proofs.lemmas.List.Elements.{Contains-push_cases, Contains-append_left, Contains-push}
use Rattle.fab_reach_base.specs.fab_lemmas.Lists.{IsListOf}
use Rattle.fab_reach_base.specs.Records.{ConfigRows}
use Rattle.fab_store_rows.specs.declared.config_row.ConfigRow.{ConfigRow}
use Rattle.fab_store_rows.specs.Differences.{IsDifference}
use Rattle.fab_store_rows.specs.RowOrder.{row_order}
use Rattle.fab_store_rows.specs.Standing.{Stands}
use Rattle.fab_store_edits.specs.Led.{IsLed}
use Rattle.fab_store_edits.proofs.Differing.{led_back}
use Rattle.fab_store_edits.proofs.ManyRows.{next_is}
use Rattle.fab_store_drafts.specs.Uses.{Use}
use Rattle.fab_store_drafts.specs.Users.{IsUse, AreUsers, PutsUse, TakesUse, PutsUses, TakesUses}
use Rattle.fab_store_drafts.specs.declared.users.Users.{Users}
use Rattle.fab_store_drafts.proofs.OneUse.{row_of}

module _ {A : Type 0} where
  pub puts_none : (xs : List ConfigRow) (u : Users A) → PutsUses (take 0 xs) u u
  puts_none xs u x = (λ h. inl h, λ h. elim h [ inl k ↦ k | inr c ↦ absurd (omega (arith, c.1)) ])

  pub puts_next : (xs : List ConfigRow) (i : ℕ) (k : ConfigRow) (u v w : Users A) → i < length xs → k ≡ get_or xs i k → PutsUses (take i xs) u v → PutsUse k v w → PutsUses (take (i + 1) xs) u w
  puts_next xs i k u v w h is before one = subst (λ ys. PutsUses ys u w) (next_is xs i k h is) (λ x. (
    λ n. elim ((one x).0 n) [
      | inl m ↦ elim ((before x).0 m) [ inl o ↦ inl o | inr t ↦ inr (Contains-append_left (take i xs) (k ∷ []) (row_of x) t) ]
      | inr e ↦ inr (subst (Contains (take i xs ++ k ∷ [])) (sym e) (Contains-push (take i xs) k))
    ],
    λ n. elim n [
      | inl o ↦ (one x).1 (inl ((before x).1 (inl o)))
      | inr t ↦ elim (Contains-push_cases (take i xs) k (row_of x) t) [ inl c ↦ (one x).1 (inl ((before x).1 (inr c))) | inr e ↦ (one x).1 (inr (sym e)) ]
    ],
  ))

  pub puts_last : (xs : List ConfigRow) (i : ℕ) (u v : Users A) → length xs ≤ i → PutsUses (take i xs) u v → PutsUses xs u v
  puts_last xs i u v h = subst (λ ys. PutsUses ys u v) (take_all i xs h)

  pub takes_none : (xs : List ConfigRow) (u : Users A) → TakesUses (take 0 xs) u u
  takes_none xs u x = (λ h. (h, λ c. omega (arith, c.1)), λ h. h.0)

  pub takes_next : (xs : List ConfigRow) (i : ℕ) (k : ConfigRow) (u v w : Users A) → i < length xs → k ≡ get_or xs i k → TakesUses (take i xs) u v → TakesUse k v w → TakesUses (take (i + 1) xs) u w
  takes_next xs i k u v w h is before one = subst (λ ys. TakesUses ys u w) (next_is xs i k h is) (λ x. (
    λ n. let m = (one x).0 n in let o = (before x).0 m.0 in (o.0, λ t. elim (Contains-push_cases (take i xs) k (row_of x) t) [ inl c ↦ o.1 c | inr e ↦ m.1 (sym e) ]),
    λ n. (one x).1 (
      (before x).1 (n.0, λ t. n.1 (Contains-append_left (take i xs) (k ∷ []) (row_of x) t)),
      λ e. n.1 (subst (Contains (take i xs ++ k ∷ [])) (sym e) (Contains-push (take i xs) k)),
    ),
  ))

  pub takes_last : (xs : List ConfigRow) (i : ℕ) (u v : Users A) → length xs ≤ i → TakesUses (take i xs) u v → TakesUses xs u v
  takes_last xs i u v h = subst (λ ys. TakesUses ys u v) (take_all i xs h)

  -- the users of the configuration that was led
  pub users_led : (c d : ConfigRows) (go come : List ConfigRow) (u v w : Users A) → IsDifference d c come go → AreUsers c u → TakesUses go u v → PutsUses come v w → AreUsers d w
  users_led c d go come u v w x are taken put y = (
    λ h. elim ((put y).0 h) [
      | inr t ↦ led.came (row_of y) t
      | inl m ↦ let k = (taken y).0 m in elim (led.left (row_of y) ((are y).0 k.0)) [ inl s ↦ s | inr g ↦ absurd (k.1 g) ]
    ],
    λ h. elim (led.kept (row_of y) h) [
      | inr k ↦ (put y).1 (inr k)
      | inl s ↦ (put y).1 (inl ((taken y).1 ((are y).1 s, λ t. led.gone (row_of y) t h)))
    ],
  )
    where
      led : IsLed c d go come
      led = led_back d c come go x

  -- the users of a whole configuration
  pub users_all : (c : ConfigRows) (rows : List ConfigRow) (u v : Users A) → IsListOf row_order (Stands c) rows → ((x : Use) → ¬ IsUse u x) → PutsUses rows u v → AreUsers c v
  users_all c rows u v all none put y = (λ h. elim ((put y).0 h) [ inl k ↦ absurd (none y k) | inr t ↦ all.sound (row_of y) t ], λ h. (put y).1 (inr (all.complete (row_of y) h)))
