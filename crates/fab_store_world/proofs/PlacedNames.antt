-- The places of names in an order.
use Rattle.std.proofs.Common.{◌≡◌, ◌+◌, ℕ, inl, inr, List, [], ◌∷◌, Contains, refl, sym, ap, ◌∙◌, subst, arith}
use Rattle.std.specs.Ordering.{eq_by_cmp}
use Rattle.std.specs.Cmp.{eq_by_cmp_equiv}
use Rattle.std.specs.List.{IsDistinct}
use Rattle.std.specs.Map.{keys_of}
use Rattle.std.proofs.lemmas.Map.Views.{lookup-from_Contains}
use Rattle.std.proofs.lemmas.Option.{same_Some}
use Rattle.fab_reach_base.specs.fab_names.Orders.{name_cmp}
use Rattle.fab_reach_base.proofs.fab_names.OrderLaws.{name_total}
use Rattle.fab_store_world.specs.Orders.{numbered}
use Rattle.fab_store_world.specs.Positions.{IsOrder}
use Rattle.fab_store_world.proofs.Picked.{first_or_later, later}

-- the names of an order with their places
swapped : ℕ → List (List ℕ) → List (List ℕ × ℕ)
swapped k [] = []
swapped k (n ∷ ns) = (n, k) ∷ swapped (k + 1) ns

names_swapped : (k : ℕ) (ns : List (List ℕ)) → keys_of (swapped k ns) ≡ ns
unfolding swapped
names_swapped k [] = refl
names_swapped k (n ∷ ns) = ap (λ ms. n ∷ ms) (names_swapped (k + 1) ns)

swapped_has : (j : ℕ) (ns : List (List ℕ)) (k : ℕ) (n : List ℕ) → Contains (numbered j ns) (k, n) → Contains (swapped j ns) (n, k)
unfolding swapped
swapped_has j [] k n h = absurd (omega (arith, h.1))
swapped_has j (m ∷ ns) k n h = elim (first_or_later (j, m) (k, n) (numbered (j + 1) ns) h) [
  | inl is ↦ (0, omega arith, ap (λ (d : ℕ × List ℕ). (d.1, d.0)) is)
  | inr there ↦ later (m, j) (n, k) (swapped (j + 1) ns) (swapped_has (j + 1) ns k n there)
]

-- a name that is in the order once has one place
pub one_place : (order : List (List ℕ)) → IsOrder order → (n : List ℕ) (k l : ℕ) → Contains (numbered 1 order) (k, n) → Contains (numbered 1 order) (l, n) → k ≡ l
one_place order once n k l h g =
    let names = subst (λ ns. IsDistinct (eq_by_cmp name_cmp) ns) (sym (names_swapped 1 order)) once in
    let at = λ (m : ℕ) (c : Contains (numbered 1 order) (m, n)). lookup-from_Contains (eq_by_cmp_equiv name_total) n m (swapped 1 order) names (swapped_has 1 order m n c) in
    same_Some k l (sym (at k h) ∙ at l g)

-- the name of a place is in the order
pub placed_name : (j : ℕ) (order : List (List ℕ)) (n : List ℕ) (k : ℕ) → Contains (numbered j order) (k, n) → Contains order n
placed_name j [] n k h = absurd (omega (arith, h.1))
placed_name j (m ∷ ns) n k h = elim (first_or_later (j, m) (k, n) (numbered (j + 1) ns) h) [
  | inl is ↦ (0, omega arith, ap (λ (d : ℕ × List ℕ). d.1) is)
  | inr there ↦ later m n ns (placed_name (j + 1) ns n k there)
]

-- and a name of the order has a place
pub place_of : (j : ℕ) (order : List (List ℕ)) (n : List ℕ) → Contains order n → (k : ℕ) × Contains (numbered j order) (k, n)
place_of j [] n h = absurd (omega (arith, h.1))
place_of j (m ∷ ns) n h = elim (first_or_later m n ns h) [
  | inl is ↦ (j, (0, omega arith, ap (λ (x : List ℕ). (j, x)) is))
  | inr there ↦ let w = place_of (j + 1) ns n there in (w.0, later (j, m) (w.0, n) (numbered (j + 1) ns) w.1)
]
