-- Sets and maps of the code that are the same have the same keys, or entries, in order.
use Rattle.std.proofs.Common.{◌≡◌, ℕ, List, ◌&&◌, nat_eq, refl, sym, ap, ◌∙◌}
use Rattle.std.specs.declared.cmp.Ordering.{Ordering}
use Rattle.std.specs.Bool.{Decides}
use Rattle.std.specs.Cmp.{IsTotalOrder}
use Rattle.std.specs.Cmp.Lexicographic.{pointwise}
use Rattle.std.specs.FinMap as map
use Rattle.std.specs.FinSet as set
use Rattle.std.specs.List.Sorted.{IsStrictlySortedBy}
use Rattle.std.specs.Map.{keys_of}
use Rattle.std.proofs.lemmas.Bool.Decides.{Decides-eqb}
use Rattle.std.proofs.lemmas.Slice.Eq.{slice_eq-Decides}
use Rattle.fab_inventory.proofs.fab_lemmas.SeenMaps.{entries_made}
use Rattle.fab_inventory.proofs.fab_lemmas.Tests.{both, left, right}
use Rattle.fab_mapping_base.proofs.SortedLists.{same_sorted}

module _ {K : Type 0} {R : K → K → Ordering} (o : IsTotalOrder R) (exact : set.IsAntisymmetric R) where
  -- sorted keys of one set are the same
  pub same_keys : (xs ys : List K) → IsStrictlySortedBy R xs → IsStrictlySortedBy R ys → set.from_list {R = R} xs ≡ set.from_list ys → xs ≡ ys
  same_keys xs ys s t is =
      same_sorted o exact xs ys s t
      (λ k h. sym (set.contains-from_list o ys k) ∙ sym (ap (λ x. set.contains x k) is) ∙ set.contains-from_list o xs k ∙ h)
      (λ k h. sym (set.contains-from_list o xs k) ∙ ap (λ x. set.contains x k) is ∙ set.contains-from_list o ys k ∙ h)

  -- and sorted entries of one map
  pub same_entries : {X : Type 0} (xs ys : List (K × X)) → IsStrictlySortedBy R (keys_of xs) → IsStrictlySortedBy R (keys_of ys) → map.from_entries {R = R} xs ≡ map.from_entries ys → xs ≡ ys
  same_entries xs ys s t is = sym (entries_made o exact xs s) ∙ ap map.entries is ∙ entries_made o exact ys t

-- ---- the tests of equality

pub names_decided : (a b : List (List ℕ)) → Decides (pointwise (pointwise nat_eq) a b) (a ≡ b)
names_decided a b = slice_eq-Decides (λ x y. slice_eq-Decides Decides-eqb x y (pointwise nat_eq x y) refl) a b (pointwise (pointwise nat_eq) a b) refl

pub ports_decided : (a b : List ℕ) → Decides (pointwise nat_eq a b) (a ≡ b)
ports_decided a b = slice_eq-Decides Decides-eqb a b (pointwise nat_eq a b) refl

unit_decided : (e f : ℕ × List ℕ) → Decides (nat_eq e.0 f.0 && pointwise nat_eq e.1 f.1) (e ≡ f)
unit_decided e f =
    let unit = Decides-eqb e.0 f.0 in
    let volume = ports_decided e.1 f.1 in (
      λ h. let u = unit.0 (left _ _ h) in let v = volume.0 (right (nat_eq e.0 f.0) _ h) in λ i. (u i, v i),
      λ is. both (unit.1 (ap (λ (x : ℕ × List ℕ). x.0) is)) (volume.1 (ap (λ (x : ℕ × List ℕ). x.1) is)),
    )

pub units_decided : (a b : List (ℕ × List ℕ)) → Decides (pointwise (λ e f. nat_eq e.0 f.0 && pointwise nat_eq e.1 f.1) a b) (a ≡ b)
units_decided a b = slice_eq-Decides unit_decided a b (pointwise (λ e f. nat_eq e.0 f.0 && pointwise nat_eq e.1 f.1) a b) refl
