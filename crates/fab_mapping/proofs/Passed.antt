-- A property of each value, where a search through all of them answered.
use Rattle.std.proofs.Common.{ℕ, ◌≡◌, List, Bool, IsTrue, Option, None, Some, refl, subst}
use Rattle.std.specs.BTreeMap as tree
use Rattle.std.specs.BTreeMap.{BTreeMap}
use Rattle.std.specs.Option.{IfSome}
use Rattle.fab_mapping_base.proofs.fab_lemmas.Passing.{values_pass}
use Rattle.fab_mapping_base.specs.fab_names.Orders.{name_cmp}
use Rattle.fab_mapping_base.proofs.fab_names.OrderLaws.{name_total}
use Rattle.fab_mapping_base.proofs.Passed.{Answers}
use Rattle.fab_mapping.specs.Soundness.{Each}

module _ {X : Type 0} (at : List ℕ → Option X) (P : X → Type 0) where
  each_found : ((n : List ℕ) → IfSome (at n) P) → Each at P
  each_found h n x is = subst (λ o. IfSome o P) is (h n)

  found_each : Each at P → (n : List ℕ) → IfSome (at n) P
  found_each h n = by (at n) refl
    where
      by : (o : Option X) → at n ≡ o → IfSome o P
      by None e = tt
      by (Some x) e = h n x e

-- the values of a tree
pub values_have : {X : Type 0} (P : X → Type 0) (t : BTreeMap (List ℕ) X) (r : Bool) → tree.IsOrdered name_cmp t → Answers P (tree.values t) r → (IsTrue r → Each (tree.get name_cmp t) P) × (Each (tree.get name_cmp t) P → IsTrue r)
values_have P t r sorted answers =
    let v = values_pass name_total P t.entries r sorted answers in
    (λ h. each_found (tree.get name_cmp t) P (v.0 h), λ h. v.1 (found_each (tree.get name_cmp t) P h))
