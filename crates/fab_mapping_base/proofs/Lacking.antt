-- The first of what is named and is not as it should be.
use Rattle.std.proofs.Common.{◌≡◌, List, Option, None, Some, true, Contains, MatchOption, refl, sym, ap, ◌∙◌, subst}
use Rattle.std.specs.declared.cmp.Ordering.{Ordering}
use Rattle.std.specs.Ordering.{is_gt}
use Rattle.std.specs.Cmp.{IsTotalOrder, tied_itself}
use Rattle.std.specs.FinMap as map
use Rattle.std.specs.FinSet as set
use Rattle.fab_inventory.specs.fab_lemmas.Firsts.{IsFirstOf}
use Rattle.fab_inventory.proofs.fab_lemmas.Adding.{Before}
use Rattle.fab_inventory.proofs.fab_lemmas.Leasts.{least_as}
use Rattle.fab_inventory.proofs.fab_lemmas.SeenEntries.{entry_decides}
use Rattle.fab_inventory.proofs.fab_lemmas.SeenSets.{listed_decides}

-- the item, and it is not as it should be
abbrev pub Lacking : {X : Type 0} → (X → Type 0) → X → X → Type 0
Lacking Good k x = (x ≡ k) × ¬ Good x

module _ {X : Type 0} {R : X → X → Ordering} (o : IsTotalOrder R) (Good : X → Type 0) where
  -- one item
  pub lacking_one : (k : X) (r : Option X) → MatchOption r (Good k) (Lacking Good k) → IsFirstOf R (Lacking Good k) r
  lacking_one k None good = λ x w. w.1 (subst Good (sym w.0) good)
  lacking_one k (Some y) lacks = (lacks, λ x w. ap (λ z. is_gt (R y z)) (w.0 ∙ sym lacks.0) ∙ ap is_gt (tied_itself o y))

  -- the members of a set
  pub lacking_members : set.IsAntisymmetric R → (s : set.FinSet R) (ks : List X) (a : Option X) → set.from_list ks ≡ s → IsFirstOf R (Before (Lacking Good) ks) a → IsFirstOf R (λ x. (set.contains s x ≡ true) × ¬ Good x) a
  lacking_members exact s ks a is =
      least_as R (Before (Lacking Good) ks) (λ x. (set.contains s x ≡ true) × ¬ Good x) a
      (λ x w. (ap (set.contains s) w.2.0 ∙ ap (λ t. set.contains t w.0) (sym is) ∙ (listed_decides o exact ks w.0).1 w.1, w.2.1))
      (λ x w. (x, (listed_decides o exact ks x).0 (ap (λ t. set.contains t x) is ∙ w.0), (refl, w.1)))

  -- the values of a map
  pub lacking_values : {N : Type 0} {S : N → N → Ordering} → IsTotalOrder S → set.IsAntisymmetric S → (m : map.FinMap S X) (es : List (N × X)) (a : Option X) → es ≡ map.entries m → IsFirstOf R (Before (λ (e : N × X). Lacking Good e.1) es) a
      → IsFirstOf R (λ x. ((n : N) × (map.get m n ≡ Some x)) × ¬ Good x) a
  lacking_values {N} {S} p exact m es a is =
      least_as R (Before (λ (e : N × X). Lacking Good e.1) es) (λ x. ((n : N) × (map.get m n ≡ Some x)) × ¬ Good x) a
      (λ x w. ((w.0.0, (entry_decides S p exact m w.0.0 w.0.1).1 (subst (λ (ys : List (N × X)). Contains ys w.0) is w.1) ∙ ap Some (sym w.2.0)), w.2.1))
      (λ x w. ((w.0.0, x), subst (λ (ys : List (N × X)). Contains ys (w.0.0, x)) (sym is) ((entry_decides S p exact m w.0.0 x).0 w.0.1), (refl, w.1)))
