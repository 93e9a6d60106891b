-- How large finite maps and finite sets are: after a key more or a key less, as listed, and beside a part.
use Rattle.std.proofs.Common.{ℕ, zero, suc, ◌≡◌, ◌<◌, ◌≤◌, ◌+◌, ◌-◌, List, [], ◌∷◌, length, Bool, true, false, cond, not, ◌⊎◌, inl, inr, refl, sym, ap, ◌∙◌, arith}
use mathlib.Core.Bool.{true≢false}
use Rattle.std.specs.declared.cmp.Ordering.{Ordering}
use Rattle.std.specs.Ordering.{is_eq, eq_by_cmp}
use Rattle.std.specs.Cmp.{IsTotalOrder, tied_itself}
use Rattle.std.specs.List.{list_any}
use Rattle.std.specs.FinMap as map
use Rattle.std.specs.FinSet as set
use Rattle.fab_lemmas.specs.Room.{HasRoom, SetHasRoom}
use Rattle.fab_lemmas.proofs.Tests.{both, left, right, or_left}

-- one more, where it is there or there is room
one_more : (n m most : ℕ) (there : Bool) → m ≡ cond there n (n + 1) → (there ≡ true) ⊎ (n < most) → n ≤ most → m ≤ most
one_more n m most true is room few = omega (arith, is, few)
one_more n m most false is room few = elim room [ inl e ↦ absurd (true≢false (sym e)) | inr h ↦ omega (arith, is, h) ]

-- one less
one_less : (n m most : ℕ) (there : Bool) → m ≡ cond there (n - 1) n → n ≤ most → m ≤ most
one_less n m most true is few = omega (arith, is, few)
one_less n m most false is few = omega (arith, is, few)

module _ {K : Type 0} {R : K → K → Ordering} (o : IsTotalOrder R) where
  -- ---- a key more, or a key less
  pub set_put : (s : set.FinSet R) (x : K) (most : ℕ) → SetHasRoom s x most → set.len s ≤ most → set.len (set.insert s x) ≤ most
  set_put s x most room few = one_more (set.len s) (set.len (set.insert s x)) most (set.contains s x) (set.len-insert o s x) room few

  pub set_gone : (s : set.FinSet R) (x : K) (most : ℕ) → set.len s ≤ most → set.len (set.remove s x) ≤ most
  set_gone s x most few = one_less (set.len s) (set.len (set.remove s x)) most (set.contains s x) (set.len-remove o s x) few

  pub map_put : {X : Type 0} (m : map.FinMap R X) (k : K) (v : X) (most : ℕ) → HasRoom m k most → map.len m ≤ most → map.len (map.insert m k v) ≤ most
  map_put m k v most room few = one_more (map.len m) (map.len (map.insert m k v)) most (map.contains_key m k) (map.len-insert o m k v) room few

  pub map_gone : {X : Type 0} (m : map.FinMap R X) (k : K) (most : ℕ) → map.len m ≤ most → map.len (map.remove m k) ≤ most
  map_gone m k most few = one_less (map.len m) (map.len (map.remove m k)) most (map.contains_key m k) (map.len-remove o m k) few

  -- ---- listed sets
  -- a set with a member has something
  pub holds_some : (s : set.FinSet R) (x : K) → set.contains s x ≡ true → 0 < set.len s
  holds_some s x h = by (set.len s) refl
    where
      by : (n : ℕ) → set.len s ≡ n → 0 < set.len s
      by zero e = absurd (true≢false (sym h ∙ ap (λ t. set.contains t x) (set.empty_of_len s e) ∙ set.contains-empty R x))
      by (suc n) e = omega arith

  -- where something is listed, the set has something
  pub some_listed : (xs : List K) → 0 < length xs → 0 < set.len (set.from_list {R = R} xs)
  some_listed [] h = absurd (omega arith)
  some_listed (x ∷ xs) h = holds_some (set.from_list (x ∷ xs)) x (set.contains-from_list o (x ∷ xs) x ∙ or_left (eq_by_cmp R x x) (list_any (eq_by_cmp R x) xs) (ap is_eq (tied_itself o x)))

  -- a listed set is no larger than the list is long
  pub at_most_listed : (xs : List K) → set.len (set.from_list {R = R} xs) ≤ length xs
  at_most_listed [] = let e = set.len-empty R in omega arith
  at_most_listed (x ∷ xs) = by (set.contains (set.from_list {R = R} xs) x) (set.len-insert o (set.from_list {R = R} xs) x) (at_most_listed xs)
    where
      by : (b : Bool) → set.len (set.insert (set.from_list {R = R} xs) x) ≡ cond b (set.len (set.from_list {R = R} xs)) (set.len (set.from_list {R = R} xs) + 1) → set.len (set.from_list {R = R} xs) ≤ length xs
          → set.len (set.insert (set.from_list {R = R} xs) x) ≤ suc (length xs)
      by true e rest = omega arith
      by false e rest = omega arith

  -- a set with something has a member
  pub some_member : set.IsAntisymmetric R → (s : set.FinSet R) → 0 < set.len s → (x : K) × (set.contains s x ≡ true)
  some_member exact s h = by (set.items s) refl
    where
      by : (xs : List K) → set.items s ≡ xs → (x : K) × (set.contains s x ≡ true)
      by [] e =
          let none : s ≡ set.empty = set.same_set o exact s set.empty (λ q. set.contains-items s q ∙ ap (list_any (eq_by_cmp R q)) e ∙ sym (set.contains-empty R q)) in
          absurd (let z = ap set.len none ∙ set.len-empty R in omega (arith, h, z))
      by (x ∷ xs) e = (x, set.contains-items s x ∙ ap (list_any (eq_by_cmp R x)) e ∙ or_left (eq_by_cmp R x x) (list_any (eq_by_cmp R x) xs) (ap is_eq (tied_itself o x)))

-- ---- parts of sets
module _ {K : Type 0} {R : K → K → Ordering} (o : IsTotalOrder R) (exact : set.IsAntisymmetric R) where
  -- what is left of a part is a part of what is left
  still : (s t : set.FinSet R) (x : K) → ((q : K) → set.contains s q ≡ true → set.contains t q ≡ true) → (q : K) → set.contains (set.remove s x) q ≡ true → set.contains (set.remove t x) q ≡ true
  still s t x within q h =
      let kept = sym (set.contains-remove o s x q) ∙ h in
      set.contains-remove o t x q ∙ both (left (not (eq_by_cmp R q x)) (set.contains s q) kept) (within q (right (not (eq_by_cmp R q x)) (set.contains s q) kept))

  -- one less on either side
  one_member_less : (n : ℕ) (s t : set.FinSet R) (x : K) → set.len s ≡ suc n → set.contains s x ≡ true → set.contains t x ≡ true
      → (set.len (set.remove s x) ≡ n → n ≤ set.len (set.remove t x)) → suc n ≤ set.len t
  one_member_less n s t x size in_s in_t fewer = by (set.contains s x) (set.contains t x) in_s in_t (set.len-remove o s x) (set.len-remove o t x)
    where
      by : (b c : Bool) → b ≡ true → c ≡ true → set.len (set.remove s x) ≡ cond b (set.len s - 1) (set.len s) → set.len (set.remove t x) ≡ cond c (set.len t - 1) (set.len t) → suc n ≤ set.len t
      by true true e f m k =
          let rest = fewer (omega (arith, m, size)) in
          let some = holds_some o t x in_t in
          omega (arith, k, rest, some)
      by true false e f m k = absurd (true≢false (sym f))
      by false c e f m k = absurd (true≢false (sym e))

  -- a part of a set is no larger than the set
  part_sized : (n : ℕ) (s t : set.FinSet R) → set.len s ≡ n → ((x : K) → set.contains s x ≡ true → set.contains t x ≡ true) → n ≤ set.len t
  part_sized zero s t size within = omega arith
  part_sized (suc n) s t size within =
      let m = some_member o exact s (omega (arith, size)) in
      one_member_less n s t m.0 size m.1 (within m.0 m.1) (λ e. part_sized n (set.remove s m.0) (set.remove t m.0) e (still s t m.0 within))

  pub part_of_set : (s t : set.FinSet R) → ((x : K) → set.contains s x ≡ true → set.contains t x ≡ true) → set.len s ≤ set.len t
  part_of_set s t within = part_sized (set.len s) s t refl within
