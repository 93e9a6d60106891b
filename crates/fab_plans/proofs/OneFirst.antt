-- What is first is one.
use Rattle.std.proofs.Common.{◌≡◌, ◌<◌, ◌⊎◌, ℕ, zero, suc, inl, inr, cond, nat_eq, List, take, All, Some, slice_get, false, refl, sym, ap, ◌∙◌, subst, arith}
use mathlib.Core.Bool.{true≢false}
use Rattle.std.specs.declared.cmp.Ordering.{Ordering}
use Rattle.std.specs.declared.cmp.Ordering.TheVariants.{Less, Equal, Greater}
use Rattle.std.specs.Ordering.{is_gt, ordering_reverse}
use Rattle.std.specs.Cmp.{IsTotalOrder}
use Rattle.std.specs.FinSet as set
use Rattle.std.proofs.lemmas.List.{get_or-take, length-take}
use Rattle.std.proofs.lemmas.Option.{slice_get_within, get_or_from_slice_get}
use Rattle.fab_reach_base.specs.fab_lemmas.Firsts.{IsFirstWithout}
use Rattle.fab_plans.specs.Checks.{Check, own_name, other_names, right_array, free_unit, no_user, room, place_of, Failures, IsFirstRefusal}
use Rattle.fab_plans.specs.declared.fault.Refusal.{Refusal}
use Rattle.fab_plans.proofs.Facts.{one_value}

-- one of two numbers is less, or they are equal
pub compared : (m n : ℕ) → (m < n) ⊎ ((m ≡ n) ⊎ (n < m))
compared zero zero = inr (inl refl)
compared zero (suc n) = inl (omega arith)
compared (suc m) zero = inr (inr (omega arith))
compared (suc m) (suc n) = elim (compared m n) [ inl a ↦ inl (omega (arith, a)) | inr b ↦ elim b [ inl c ↦ inr (inl (ap suc c)) | inr d ↦ inr (inr (omega (arith, d))) ] ]

-- ---- by an order
-- two of which neither is before the other are one
pub same_first : {K : Type 0} {R : K → K → Ordering} → IsTotalOrder R → set.IsAntisymmetric R → (x y : K) → is_gt (R x y) ≡ false → is_gt (R y x) ≡ false → x ≡ y
same_first {R = R} o exact x y a b = by (R x y) refl
  where
    by : (r : Ordering) → R x y ≡ r → x ≡ y
    by Less e = absurd (let g : R y x ≡ Greater = o.antisymm y x ∙ ap ordering_reverse e in true≢false (sym (ap is_gt g) ∙ b))
    by Equal e = exact x y e
    by Greater e = absurd (true≢false (sym (ap is_gt e) ∙ a))

-- ---- by a place in a list
-- what stands before a place has what all before it have
found_before : {X : Type 0} (P : X → Type 0) (xs : List X) (i n : ℕ) (x : X) → All P (take n xs) → slice_get xs i ≡ Some x → i < n → P x
found_before P xs i n x all at lt =
    let within = slice_get_within xs i x at in
    let size = length-take n xs in
    subst P (get_or-take n xs i x lt ∙ get_or_from_slice_get xs i x x at) (all i x (omega (arith, size, lt, within)))

-- the first without P is one
pub one_without : {X : Type 0} (P : X → Type 0) (xs : List X) (x y : X) → IsFirstWithout P xs x → IsFirstWithout P xs y → x ≡ y
one_without P xs x y a b = elim (compared a.at b.at) [
  | inl lt ↦ absurd (a.without (found_before P xs a.at b.at x b.before a.is lt))
  | inr o ↦ elim o [ inl e ↦ one_value (sym (ap (slice_get xs) e) ∙ a.is) b.is | inr gt ↦ absurd (b.without (found_before P xs b.at a.at y a.before b.is gt)) ]
]

-- ---- by a check
-- the check of a place
check_at : ℕ → Check
check_at n = cond (nat_eq n 0) own_name (cond (nat_eq n 1) other_names (cond (nat_eq n 2) right_array (cond (nat_eq n 3) free_unit (cond (nat_eq n 4) no_user room))))

check_again : (k : Check) → check_at (place_of k) ≡ k
unfolding check_at
check_again own_name = refl
check_again other_names = refl
check_again right_array = refl
check_again free_unit = refl
check_again no_user = refl
check_again room = refl

one_check : (j k : Check) → place_of j ≡ place_of k → j ≡ k
one_check j k e = sym (check_again j) ∙ ap check_at e ∙ check_again k

-- where each check gives one refusal, the first refusal is one
pub one_first : (fails : Failures) → ((k : Check) (r q : Refusal) → fails k r → fails k q → r ≡ q) → (r q : Refusal) → IsFirstRefusal fails r → IsFirstRefusal fails q → r ≡ q
one_first fails one r q a b = elim (compared (place_of a.check) (place_of b.check)) [
  | inl lt ↦ absurd (b.before a.check r lt a.here)
  | inr o ↦ elim o [ inl e ↦ one b.check r q (subst (λ k. fails k r) (one_check a.check b.check e) a.here) b.here | inr gt ↦ absurd (a.before b.check q gt b.here) ]
]
