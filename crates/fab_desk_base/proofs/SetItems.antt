-- Sets of the code, listed.
use Rattle.std.proofs.Common.{◌≡◌, List, Some, true, refl, sym, subst}
use Rattle.std.specs.declared.cmp.Ordering.{Ordering}
use Rattle.std.specs.BTreeSet.{BTreeSet, IsOrdered}
use Rattle.std.specs.Cmp.{IsTotalOrder}
use Rattle.std.specs.FinMap as map
use Rattle.std.specs.FinSet as set
use Rattle.std.specs.List.Sorted.{IsStrictlySortedBy}
use Rattle.fab_reach_base.specs.fab_lemmas.Lists.{IsListOf}
use Rattle.fab_reach_base.specs.fab_lemmas.MapsOfSets.{MapOfSets, seen_set}
use Rattle.fab_reach_base.proofs.fab_lemmas.SeenSets.{listed_decides}

module _ {K : Type 0} {R : K → K → Ordering} (o : IsTotalOrder R) (exact : set.IsAntisymmetric R) where
  -- what the set has
  abbrev pub HasIn : set.FinSet R → K → Type 0
  HasIn s x = set.contains s x ≡ true

  -- sorted keys list the set that they make
  keys_list : (ks : List K) → IsStrictlySortedBy R ks → IsListOf R (HasIn (set.from_list ks)) ks
  keys_list ks rising = record { sorted = rising; sound = λ x h. (listed_decides o exact ks x).1 h; complete = λ x h. (listed_decides o exact ks x).0 h }

  -- the keys that are listed list the set that they show
  pub keys_listed : (ks xs : List K) (s : set.FinSet R) → set.from_list ks ≡ s → IsStrictlySortedBy R ks → xs ≡ ks → IsListOf R (HasIn s) xs
  keys_listed ks xs s shows rising is = subst (IsListOf R (HasIn s)) (sym is) (subst (λ t. IsListOf R (HasIn t) ks) shows (keys_list ks rising))

  -- a set that was found, listed
  pub set_found : {Q : Type 0} {O : Q → Q → Ordering} (m : MapOfSets O R) (n : Q) (s : BTreeSet K) (xs : List K) → map.get m n ≡ Some (seen_set R s) → IsOrdered R s → xs ≡ s.keys → (t : set.FinSet R) × (map.get m n ≡ Some t) × IsListOf R (HasIn t) xs
  set_found m n s xs there rising is = (seen_set R s, there, keys_listed s.keys xs (seen_set R s) refl rising is)
