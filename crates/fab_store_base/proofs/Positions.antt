-- The positions of plans in a sound world are within their range.
use Rattle.std.proofs.Common.{ℕ, zero, suc, ◌≡◌, ◌+◌, ◌≤◌, inl, inr, List, [], ◌∷◌, Contains, length, Some, cond, IsSome, is_some, true, refl, sym, ap, ◌∙◌, subst, arith}
use Rattle.std.specs.Cmp.{eq_by_cmp_equiv}
use Rattle.std.specs.FinMap as map
use Rattle.std.specs.List.{list_any}
use Rattle.std.specs.Map.{lookup}
use Rattle.std.specs.Ordering.{eq_by_cmp}
use Rattle.std.specs.declared.cmp.Ordering.{Ordering}
use Rattle.std.proofs.lemmas.List.Elements.{Contains-append_cases}
use Rattle.std.proofs.lemmas.Map.Made.{is_member-Decides}
use Rattle.std.proofs.lemmas.Map.Steps.{length-le_from_keys}
use Rattle.fab_store_world.specs.Positions.{IsPosition}
use Rattle.fab_store_columns_base.specs.declared.limits.TheConstants.{MOST_NUMBER}
use Rattle.fab_lemmas.proofs.SeenSets.{tie_decides}
use Rattle.fab_names.specs.Orders.{name_cmp}
use Rattle.fab_names.proofs.OrderLaws.{name_total, name_exact}
use Rattle.fab_store_world.specs.Orders.{numbered}
use Rattle.fab_world.specs.Soundness.{IsSound}
use Rattle.fab_world.specs.Worlds.{WorldRows}

-- a search among the entries is a look-up
found : {K X : Type 0} (R : K → K → Ordering) (es : List (K × X)) (q : K) → map.find R q es ≡ lookup (eq_by_cmp R q) es
found R [] q = refl
found R (e ∷ es) q = ap (cond (eq_by_cmp R q e.0) (Some e.1)) (found R es q)

-- the names of a sound order are no more than the plans
few_active : (w : WorldRows) → IsSound w → length w.order ≤ map.len w.plans
few_active w sound =
    subst (λ n. length w.order ≤ n) (sym (map.len-entries w.plans))
    (length-le_from_keys (eq_by_cmp_equiv name_total) w.order (map.entries w.plans) sound.order.each_once there)
  where
    there : (q : List ℕ) → list_any (eq_by_cmp name_cmp q) w.order ≡ true → IsSome (lookup (eq_by_cmp name_cmp q) (map.entries w.plans))
    there q h =
        let p = (sound.order.lists q).0 ((is_member-Decides (tie_decides name_total name_exact) w.order q).0 h) in
        ap is_some (sym (map.get-entries w.plans q ∙ found name_cmp (map.entries w.plans) q) ∙ p.1)

-- a place is at most the last one
place_is_low : (j k : ℕ) (names : List (List ℕ)) (n : List ℕ) → Contains (numbered j names) (k, n) → k + 1 ≤ j + length names
place_is_low j k [] n there = absurd (omega (arith, there.1))
place_is_low j k (m ∷ names) n there = elim (Contains-append_cases ((j, m) ∷ []) (numbered (j + 1) names) (k, n) there) [
  | inl first ↦ let same : j ≡ k = one_place first in omega arith
  | inr later ↦ let low = place_is_low (j + 1) k names n later in omega arith
]
  where
    one_place : Contains {X = ℕ × List ℕ} ((j, m) ∷ []) (k, n) → j ≡ k
    one_place (zero, less, is) = ap (λ (e : ℕ × List ℕ). e.0) is
    one_place (suc i, less, is) = absurd (omega (arith, less))

pub position_in_range : (w : WorldRows) → IsSound w → (name : List ℕ) (k : ℕ) → IsPosition w.order name k → k ≤ MOST_NUMBER
position_in_range w sound name k at = elim at [
  | inl there ↦ omega (arith, place_is_low 1 k w.order name there, few_active w sound, sound.few_plans)
  | inr none ↦ omega (arith, none.0)
]
