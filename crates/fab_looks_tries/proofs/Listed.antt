-- Sets as lists.
use Rattle.std.proofs.Common.{◌≡◌, List, Contains, IsTrue, sym, subst}
use Rattle.std.specs.declared.cmp.Ordering.{Ordering}
use Rattle.std.specs.BTreeSet.{BTreeSet, contains}
use Rattle.std.specs.Cmp.{IsTotalOrder}
use Rattle.std.specs.FinSet as set
use Rattle.std.specs.List.Sorted.{IsStrictlySortedBy}
use Rattle.std.proofs.lemmas.Map.Views.{btree_set_contains_iff}
use Rattle.fab_lemmas.specs.Lists.{IsListOf}

module _ {K : Type 0} {R : K → K → Ordering} (o : IsTotalOrder R) (exact : set.IsAntisymmetric R) where
  -- the keys of a set that has just those with P
  pub listed_keys : (P : K → Type 0) (s : BTreeSet K) (xs : List K) → xs ≡ s.keys → IsStrictlySortedBy R xs
      → ((y : K) → IsTrue (contains R s y) → P y) → ((y : K) → P y → IsTrue (contains R s y)) → IsListOf R P xs
  listed_keys P s xs is sorted sound complete = record {
    sorted = sorted;
    sound = λ y c. sound y ((btree_set_contains_iff o exact s y).1 (subst (λ ks. Contains ks y) is c));
    complete = λ y p. subst (λ ks. Contains ks y) (sym is) ((btree_set_contains_iff o exact s y).0 (complete y p));
  }
