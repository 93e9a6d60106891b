-- How large parts of finite maps are.
use Rattle.std.proofs.Common.{◌≡◌, ◌<◌, ◌≤◌, ◌-◌, ℕ, zero, suc, List, [], ◌∷◌, map as each, length, Bool, true, false, cond, None, is_some, sym, ap, refl, ◌∙◌, arith}
use mathlib.Core.Bool.{true≢false}
use Rattle.std.specs.declared.cmp.Ordering.{Ordering}
use Rattle.std.specs.Ordering.{is_eq, eq_by_cmp}
use Rattle.std.specs.Cmp.{IsTotalOrder, tied_itself}
use Rattle.std.specs.List.{list_any}
use Rattle.std.specs.FinMap as map
use Rattle.fab_reach_base.proofs.fab_lemmas.Tests.{or_left}

module _ {K X : Type 0} {R : K → K → Ordering} (o : IsTotalOrder R) where
  holds_key : (m : map.FinMap R X) (x : K) → map.contains_key m x ≡ true → 0 < map.len m
  holds_key m x h = by (map.len m) refl
    where
      by : (n : ℕ) → map.len m ≡ n → 0 < map.len m
      by zero e = absurd (true≢false (sym h ∙ ap (λ t. map.contains_key t x) (map.empty_of_len m e) ∙ ap is_some (map.get-empty R x)))
      by (suc n) e = omega arith

  pub some_key : (m : map.FinMap R X) → 0 < map.len m → (x : K) × (map.contains_key m x ≡ true)
  some_key m h = by (map.entries m) refl
    where
      by : (es : List (K × X)) → map.entries m ≡ es → (x : K) × (map.contains_key m x ≡ true)
      by [] e = absurd (let z = map.len-entries m ∙ ap length e in omega (arith, h, z))
      by (y ∷ es) e = (y.0, map.contains_key-keys m y.0 ∙ ap (λ (xs : List (K × X)). list_any (eq_by_cmp R y.0) (each (λ p. p.0) xs)) e ∙ or_left (eq_by_cmp R y.0 y.0) (list_any (eq_by_cmp R y.0) (each (λ p. p.0) es)) (ap is_eq (tied_itself o y.0)))

module _ {K X Y : Type 0} {R : K → K → Ordering} (o : IsTotalOrder R) where
  still_there : (s : map.FinMap R X) (t : map.FinMap R Y) (x : K) → ((q : K) → map.contains_key s q ≡ true → map.contains_key t q ≡ true) → (q : K) → map.contains_key (map.remove s x) q ≡ true → map.contains_key (map.remove t x) q ≡ true
  still_there s t x within q h = by (eq_by_cmp R q x) (ap is_some (map.get-remove o t x q)) (sym (ap is_some (map.get-remove o s x q)) ∙ h)
    where
      by : (b : Bool) → map.contains_key (map.remove t x) q ≡ is_some (cond b None (map.get t q)) → is_some (cond b None (map.get s q)) ≡ true → map.contains_key (map.remove t x) q ≡ true
      by true e f = absurd (true≢false (sym f))
      by false e f = e ∙ within q f

  one_key_less : (n : ℕ) (s : map.FinMap R X) (t : map.FinMap R Y) (x : K) → map.len s ≡ suc n → map.contains_key s x ≡ true → map.contains_key t x ≡ true
      → (map.len (map.remove s x) ≡ n → n ≤ map.len (map.remove t x)) → suc n ≤ map.len t
  one_key_less n s t x size in_s in_t fewer = by (map.contains_key s x) (map.contains_key t x) in_s in_t (map.len-remove o s x) (map.len-remove o t x)
    where
      by : (b c : Bool) → b ≡ true → c ≡ true → map.len (map.remove s x) ≡ cond b (map.len s - 1) (map.len s) → map.len (map.remove t x) ≡ cond c (map.len t - 1) (map.len t) → suc n ≤ map.len t
      by true true e f m k =
          let rest = fewer (omega (arith, m, size)) in
          let some = holds_key o t x in_t in
          omega (arith, k, rest, some)
      by true false e f m k = absurd (true≢false (sym f))
      by false c e f m k = absurd (true≢false (sym e))

  keys_sized : (n : ℕ) (s : map.FinMap R X) (t : map.FinMap R Y) → map.len s ≡ n → ((x : K) → map.contains_key s x ≡ true → map.contains_key t x ≡ true) → n ≤ map.len t
  keys_sized zero s t size within = omega arith
  keys_sized (suc n) s t size within =
      let m = some_key o s (omega (arith, size)) in
      one_key_less n s t m.0 size m.1 (within m.0 m.1) (λ e. keys_sized n (map.remove s m.0) (map.remove t m.0) e (still_there s t m.0 within))

  -- a map whose keys another has is no larger
  pub part_of_map : (s : map.FinMap R X) (t : map.FinMap R Y) → ((x : K) → map.contains_key s x ≡ true → map.contains_key t x ≡ true) → map.len s ≤ map.len t
  part_of_map s t within = keys_sized (map.len s) s t refl within
