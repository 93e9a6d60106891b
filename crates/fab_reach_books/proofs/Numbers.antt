-- How many paths there are, before a step and after it.
use Rattle.std.proofs.Common.{ℕ, ◌≡◌, ◌<◌, ◌≤◌, ◌+◌, ◌&&◌, ◌||◌, ◌++◌, ◌∷◌, Bool, true, false, not, cond, Some, is_some, List, [], length, Contains, IsTrue, leb, leb-false, leb-true, inl, inr, refl, sym, ap, ◌∙◌, subst, arith, rules}
use mathlib.Core.Bool.{true≢false}
use Rattle.std.specs.FinMap as map
use Rattle.std.specs.List.{IsDistinct, filter}
use Rattle.std.specs.BTreeSet.{BTreeSet, IsOrdered}
use Rattle.std.specs.Ordering.{eq_by_cmp}
use Rattle.std.specs.Cmp.{eq_by_cmp_equiv}
use Rattle.std.specs.List.Sorted.{IsStrictlySortedBy}
use Rattle.std.specs.Set.{is_member}
use Rattle.std.proofs.lemmas.List.Folds.{list_any-append}
use Rattle.std.proofs.lemmas.List.Kept.{IsStrictlySortedBy-filter}
use Rattle.std.proofs.lemmas.Map.Keys.{IsDistinct-from_sorted}
use Rattle.std.proofs.lemmas.Map.Made.{is_member-Decides, is_member-filter, length-le_from_is_member, length-intersection_difference}
use Rattle.fab_lemmas.proofs.SeenEntries.{sorted}
use Rattle.fab_lemmas.proofs.SeenSets.{tie_decides}
use Rattle.fab_reach_base.specs.Books.{IsDelta, AreReached}
use Rattle.fab_reach_base.specs.Limits.{MoreThan}
use Rattle.fab_reach_base.specs.Orders.{Has, IsListOf, path_cmp}
use Rattle.fab_reach_base.specs.Reach.{Reaches}
use Rattle.fab_reach_base.specs.Records.{Records}
use Rattle.fab_reach_base.specs.declared.path.Path.{Path}
use Rattle.fab_reach_base.proofs.Gathering.{listed_all}
use Rattle.fab_reach_base.specs.PathOrder.{path_total, path_exact}
use Rattle.fab_reach_base.proofs.Reached.{path_told}
use Rattle.fab_reach_books.specs.Numbers.{IsNumberOf}

-- ---- what a number tells

-- different paths of the world are no more than it has
some_of : (w : Records) (n : ℕ) (xs : List Path) → IsNumberOf w n → IsStrictlySortedBy path_cmp xs → ((x : Path) → Contains xs x → Reaches w x) → length xs ≤ n
some_of w n xs number once sound = subst (λ m. length xs ≤ m) (sym number.many)
    (length-le_from_is_member (eq_by_cmp_equiv path_total) xs number.paths (IsDistinct-from_sorted path_cmp xs once)
    (λ x h. (is_member-Decides (tie_decides path_total path_exact) number.paths x).1 (number.are.complete x (sound x ((is_member-Decides (tie_decides path_total path_exact) xs x).0 h)))))

pub not_more : (w : Records) (n most : ℕ) → IsNumberOf w n → n ≤ most → ¬ MoreThan most (Reaches w)
not_more w n most number few more = let a = some_of w n more.some number more.sorted more.sound in let b = more.many in omega (arith, a, b, few)

pub more : (w : Records) (n most : ℕ) → IsNumberOf w n → most < n → MoreThan most (Reaches w)
more w n most number many = record { some = number.paths; sorted = number.are.sorted; sound = number.are.sound; many = subst (λ m. most < m) number.many many }

-- in the words of a test of it
pub few_of : (w : Records) (n most : ℕ) → IsNumberOf w n → (IsTrue (leb n most) → ¬ MoreThan most (Reaches w)) × (¬ MoreThan most (Reaches w) → IsTrue (leb n most))
few_of w n most number = ((λ h. not_more w n most number (leb-true n most h)), λ h. by (leb n most) refl h)
  where
    by : (b : Bool) → leb n most ≡ b → ¬ MoreThan most (Reaches w) → IsTrue (leb n most)
    by true e h = subst IsTrue (sym e) (search rules)
    by false e h = absurd (h (more w n most number (leb-false n most e)))

pub many_of : (w : Records) (n most : ℕ) → IsNumberOf w n → leb n most ≡ false → MoreThan most (Reaches w)
many_of w n most number e = more w n most number (leb-false n most e)

-- a set of all paths tells it
pub set_number : (w : Records) (t : BTreeSet Path) → IsOrdered path_cmp t → AreReached w (Has t) → IsNumberOf w (length t.keys)
set_number w t ordered all = record { paths = t.keys; are = listed_all (Reaches w) t t.keys ordered refl all; many = refl }

-- ---- after a step

abbrev has : List Path → Path → Bool
has = is_member (eq_by_cmp path_cmp)

has_iff : (xs : List Path) (x : Path) → (has xs x ≡ true → Contains xs x) × (Contains xs x → has xs x ≡ true)
has_iff xs x = is_member-Decides (tie_decides path_total path_exact) xs x

-- a list once more, each item once, in order
abbrev marks : List Path → List (Path × Unit {0})
marks [] = []
marks (x ∷ xs) = (x, tt) ∷ marks xs

abbrev in_order : List Path → List Path
in_order xs = map.keys (map.from_entries {R = path_cmp} (marks xs))

in_order_sorted : (xs : List Path) → IsStrictlySortedBy path_cmp (in_order xs)
in_order_sorted xs = sorted path_cmp (map.entries (map.from_entries {R = path_cmp} (marks xs))) (map.entries_sorted (map.from_entries {R = path_cmp} (marks xs)))

has_marks : (x : Path) (xs : List Path) → is_some (map.find path_cmp x (marks xs)) ≡ has xs x
has_marks x [] = refl
has_marks x (y ∷ xs) = elim (eq_by_cmp path_cmp x y) as (λ b. is_some (cond b (Some tt) (map.find path_cmp x (marks xs))) ≡ (b || has xs x)) [ true ↦ refl | false ↦ has_marks x xs ]

has_in_order : (xs : List Path) (x : Path) → has (in_order xs) x ≡ has xs x
has_in_order xs x = sym (map.contains_key-keys (map.from_entries {R = path_cmp} (marks xs)) x) ∙ ap is_some (map.get-from_entries path_total (marks xs) x) ∙ has_marks x xs

-- a test of items that are one
alike : (xs : List Path) (q x : Path) → eq_by_cmp path_cmp q x ≡ true → not (has xs q) ≡ not (has xs x)
alike xs q x e = ap (λ y. not (has xs y)) ((tie_decides path_total path_exact q x).0 e)

true_and : (a b : Bool) → a ≡ true → b ≡ (a && b)
true_and true b h = refl
true_and false b h = absurd (true≢false (sym h))

-- of two truths of which the second has the first
within : (a b : Bool) → (b ≡ true → a ≡ true) → b ≡ (a && b)
within a true h = true_and a true (h refl)
within true false h = refl
within false false h = refl

-- what is left of either, without the second
either_left : (a b : Bool) → (a ≡ true → b ≡ true → ⊥) → a ≡ ((a || b) && not b)
either_left true true h = absurd (h refl refl)
either_left true false h = refl
either_left false true h = refl
either_left false false h = refl

either_right : (a b : Bool) → b ≡ ((a || b) && b)
either_right true true = refl
either_right true false = refl
either_right false true = refl
either_right false false = refl

module _ (w v : Records) (xs gained lost : List Path) (are : IsListOf (Reaches w) xs) (delta : IsDelta w v gained lost) where
  abbrev kept : List Path
  kept = filter (λ x. not (has lost x)) xs

  abbrev after : List Path
  after = in_order (kept ++ gained)

  has_kept : (x : Path) → has kept x ≡ (has xs x && not (has lost x))
  has_kept x = is_member-filter (eq_by_cmp_equiv path_total) (λ y. not (has lost y)) x (alike lost x) xs

  has_after : (x : Path) → has after x ≡ (has kept x || has gained x)
  has_after x = has_in_order (kept ++ gained) x ∙ list_any-append (eq_by_cmp path_cmp x) kept gained

  kept_is : (x : Path) → has kept x ≡ true → Reaches w x × Reaches v x
  kept_is x h = by (has xs x) (has lost x) refl refl (sym (has_kept x) ∙ h)
    where
      by : (a b : Bool) → has xs x ≡ a → has lost x ≡ b → (a && not b) ≡ true → Reaches w x × Reaches v x
      by true true here left e = absurd (true≢false (sym e))
      by false b here left e = absurd (true≢false (sym e))
      by true false here left e =
          let r = are.sound x ((has_iff xs x).0 here) in (
            r,
            elim (path_told v x) [ inl s ↦ s | inr n ↦ absurd (true≢false (sym ((has_iff lost x).1 (delta.loses.complete x (record { now = r; before = n }))) ∙ left)) ],
          )

  sound_after : (x : Path) → Contains after x → Reaches v x
  sound_after x h = by (has kept x) (has gained x) refl refl (sym (has_after x) ∙ (has_iff after x).1 h)
    where
      by : (a b : Bool) → has kept x ≡ a → has gained x ≡ b → (a || b) ≡ true → Reaches v x
      by true b here come e = (kept_is x here).1
      by false true here come e = (delta.gains.sound x ((has_iff gained x).0 come)).now
      by false false here come e = absurd (true≢false (sym e))

  true_or : (a b : Bool) → a ≡ true → (a || b) ≡ true
  true_or true b h = refl
  true_or false b h = absurd (true≢false (sym h))

  or_true : (a b : Bool) → b ≡ true → (a || b) ≡ true
  or_true true b h = refl
  or_true false b h = h

  and_not : (a b : Bool) → a ≡ true → b ≡ false → (a && not b) ≡ true
  and_not true true h e = absurd (true≢false e)
  and_not true false h e = refl
  and_not false b h e = absurd (true≢false (sym h))

  complete_after : (x : Path) → Reaches v x → Contains after x
  complete_after x r = (has_iff after x).0 (has_after x ∙ elim (path_told w x) [
    | inl s ↦ true_or (has kept x) (has gained x) (has_kept x ∙ and_not (has xs x) (has lost x) ((has_iff xs x).1 (are.complete x s)) (off (has lost x) refl))
    | inr n ↦ or_true (has kept x) (has gained x) ((has_iff gained x).1 (delta.gains.complete x (record { now = r; before = n })))
  ])
    where
      off : (b : Bool) → has lost x ≡ b → has lost x ≡ false
      off true e = absurd ((delta.loses.sound x ((has_iff lost x).0 e)).before r)
      off false e = e

  kept_sorted : IsStrictlySortedBy path_cmp kept
  kept_sorted = IsStrictlySortedBy-filter path_cmp (λ x. not (has lost x)) xs are.sorted

  distinct : (ys : List Path) → IsStrictlySortedBy path_cmp ys → IsDistinct (eq_by_cmp path_cmp) ys
  distinct ys once = IsDistinct-from_sorted path_cmp ys once

  lost_and_kept : length lost + length kept ≡ length xs
  lost_and_kept = length-intersection_difference (eq_by_cmp_equiv path_total) xs lost lost kept (distinct xs are.sorted) (distinct lost delta.loses.sorted) (distinct kept (kept_sorted))
      (λ x. within (has xs x) (has lost x) (λ h. (has_iff xs x).1 (are.complete x (delta.loses.sound x ((has_iff lost x).0 h)).now))) has_kept

  gained_and_kept : length gained + length kept ≡ length after
  gained_and_kept =
      length-intersection_difference (eq_by_cmp_equiv path_total) after gained gained kept (distinct after (in_order_sorted (kept ++ gained))) (distinct gained delta.gains.sorted) (distinct kept (kept_sorted))
      (λ x. either_right (has kept x) (has gained x) ∙ ap (λ a. a && has gained x) (sym (has_after x)))
      (λ x. either_left (has kept x) (has gained x) (λ a b. (delta.gains.sound x ((has_iff gained x).0 b)).before (kept_is x a).0) ∙ ap (λ a. a && not (has gained x)) (sym (has_after x)))

  pub number_after : (n m : ℕ) → n ≡ length xs → m + length lost ≡ n + length gained → IsNumberOf v m
  number_after n m is sum = record {
    paths = after;
    are = record { sorted = in_order_sorted (kept ++ gained); sound = sound_after; complete = complete_after };
    many = let a = lost_and_kept in let b = gained_and_kept in omega (arith, a, b, is, sum);
  }

  pub lost_are_some : length lost ≤ length xs
  lost_are_some = let a = lost_and_kept in omega (arith, a)
