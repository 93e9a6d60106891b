-- A test of each value, of each key, or of each member of each set: by lists, and by look-ups.
use Rattle.std.proofs.Common.{ℕ, ◌≡◌, ◌<◌, List, Bool, true, IsTrue, length, Option, None, Some, sym, ap, ◌∙◌, subst, refl}
use mathlib.Core.Bool.{true≢false}
use Rattle.std.specs.declared.cmp.Ordering.{Ordering}
use Rattle.std.specs.Bool.{MatchBool}
use Rattle.std.specs.BTreeMap as tree
use Rattle.std.specs.BTreeMap.{BTreeMap, is_at}
use Rattle.std.specs.BTreeSet.{BTreeSet, contains}
use Rattle.std.specs.Cmp.{IsTotalOrder, eq_by_cmp_equiv}
use Rattle.std.specs.FinSet as set
use Rattle.std.specs.List.{list_all, AllWithin, HoldsAt}
use Rattle.std.specs.List.Sorted.{IsStrictlySortedBy}
use Rattle.std.specs.Map.{lookup, keys_of, values_of}
use Rattle.std.specs.Option.{IfSome, option_map}
use Rattle.std.proofs.lemmas.Bool.{MatchBool-at_true}
use Rattle.std.proofs.lemmas.Iterator.Search.{true_from_All}
use Rattle.std.proofs.lemmas.List.Elements.{All-contains, All-from_all_within}
use Rattle.std.proofs.lemmas.List.Sums.{AllPass-from_list_all, list_all-from_AllPass}
use Rattle.std.proofs.lemmas.Map.Keys.{IsDistinct-from_sorted}
use Rattle.std.proofs.lemmas.Map.Views.{IfSome-lookup_from_All, All-values_from_lookup, Contains-from_any, All-from_any, tells_apart}
use Rattle.fab_lemmas.specs.MapsOfSets.{has, in_tree, seen_set, seen_sets}
use Rattle.fab_lemmas.proofs.MapsOfSets.{has_seen}

-- a test of each value is a test of what each look-up finds
pub found_passes : {K X : Type 0} (R : K → K → Ordering) (test : X → Bool) (es : List (K × X)) → list_all test (values_of es) ≡ true → (q : K) (x : X) → lookup (is_at (R q)) es ≡ Some x → test x ≡ true
found_passes R test es all q x is = subst (λ o. IfSome o (λ y. test y ≡ true)) is (IfSome-lookup_from_All (λ y. test y ≡ true) (is_at (R q)) es (AllPass-from_list_all test (values_of es) all))

some_passes : {X : Type 0} (test : X → Bool) (o : Option X) → ((x : X) → o ≡ Some x → test x ≡ true) → IfSome o (λ x. test x ≡ true)
some_passes test None h = tt
some_passes test (Some x) h = h x refl

pub each_passes : {K X : Type 0} {R : K → K → Ordering} → IsTotalOrder R → (test : X → Bool) (es : List (K × X)) → IsStrictlySortedBy R (keys_of es) → ((q : K) (x : X) → lookup (is_at (R q)) es ≡ Some x → test x ≡ true) → list_all test (values_of es) ≡ true
each_passes {R = R} o test es sorted h =
    list_all-from_AllPass test (values_of es) (All-values_from_lookup (eq_by_cmp_equiv o) (λ x. test x ≡ true) es (IsDistinct-from_sorted R (keys_of es) sorted) (λ q. some_passes test (lookup (is_at (R q)) es) (h q)))

-- the same of a property, where a search through all values answered
pub values_pass : {K X : Type 0} {R : K → K → Ordering} → IsTotalOrder R → (P : X → Type 0) (es : List (K × X)) (r : Bool) → IsStrictlySortedBy R (keys_of es)
    → MatchBool r (AllWithin P (values_of es) 0 (length (values_of es))) ((k : ℕ) × (k < length (values_of es)) × HoldsAt (λ x. ¬ P x) (values_of es) k)
    → (IsTrue r → (q : K) → IfSome (lookup (is_at (R q)) es) P) × (((q : K) → IfSome (lookup (is_at (R q)) es) P) → IsTrue r)
values_pass {R = R} o P es r sorted cases = (
  λ t q. IfSome-lookup_from_All P (is_at (R q)) es (All-from_all_within P (values_of es) (MatchBool-at_true _ _ t cases)),
  λ h. true_from_All P (λ x. ¬ P x) r (values_of es) (λ x p q. q p) cases (All-values_from_lookup (eq_by_cmp_equiv o) P es (IsDistinct-from_sorted R (keys_of es) sorted) h),
)

-- all keys of a list pass just where all members of its set pass
pub members_pass : {K : Type 0} {R : K → K → Ordering} → IsTotalOrder R → set.IsAntisymmetric R → (p : K → Bool) (ks : List K) (s : set.FinSet R) (r : Bool) → set.from_list ks ≡ s → r ≡ list_all p ks
    → (IsTrue r → (x : K) → set.contains s x ≡ true → p x ≡ true) × (((x : K) → set.contains s x ≡ true → p x ≡ true) → IsTrue r)
members_pass {R = R} o exact p ks s r made is = (
  λ t x there. All-contains (λ y. p y ≡ true) ks x (AllPass-from_list_all p ks (sym is ∙ t)) (Contains-from_any (tells_apart exact) x ks (sym (set.contains-from_list o ks x) ∙ ap (λ y. set.contains y x) made ∙ there)),
  λ h. is ∙ list_all-from_AllPass p ks (All-from_any (eq_by_cmp_equiv o) (λ y. p y ≡ true) ks (λ x there. h x (ap (λ y. set.contains y x) (sym made) ∙ set.contains-from_list o ks x ∙ there))),
)

module _ {Q K : Type 0} {O : Q → Q → Ordering} {R : K → K → Ordering} (p : IsTotalOrder O) (o : IsTotalOrder R) (exact : set.IsAntisymmetric R) where
  in_some : (a : Option (BTreeSet K)) (x : K) → in_tree R a x ≡ true → (s : BTreeSet K) × (a ≡ Some s) × (contains R s x ≡ true)
  in_some None x h = absurd (true≢false (sym h))
  in_some (Some s) x h = (s, refl, h)

  -- a test of each member of each set
  pub pair_passes : (P : K → Bool) (t : BTreeMap Q (BTreeSet K)) → list_all (λ s. list_all P s.keys) (tree.values t) ≡ true → (q : Q) (x : K) → has (seen_sets O R t.entries) q x ≡ true → P x ≡ true
  pair_passes P t all q x is =
      let at = in_some (tree.get O t q) x (sym (has_seen R p o t q x) ∙ is) in
      let pass = found_passes O (λ (s : BTreeSet K). list_all P s.keys) t.entries all q at.0 at.1 in
      All-contains (λ y. P y ≡ true) at.0.keys x (AllPass-from_list_all P at.0.keys pass) (Contains-from_any (tells_apart exact) x at.0.keys at.2)

  pub each_pair_passes : (P : K → Bool) (t : BTreeMap Q (BTreeSet K)) → tree.IsOrdered O t → ((q : Q) (x : K) → has (seen_sets O R t.entries) q x ≡ true → P x ≡ true) → list_all (λ s. list_all P s.keys) (tree.values t) ≡ true
  each_pair_passes P t sorted h =
      each_passes p (λ (s : BTreeSet K). list_all P s.keys) t.entries sorted (λ q s at.
      list_all-from_AllPass P s.keys (All-from_any (eq_by_cmp_equiv o) (λ y. P y ≡ true) s.keys (λ x there. h q x (has_seen R p o t q x ∙ ap (λ a. in_tree R a x) at ∙ there))))

  -- a set of a map of sets is one of its tree
  pub seen_some : (a : Option (BTreeSet K)) (s : set.FinSet R) → option_map (seen_set R) a ≡ Some s → (u : BTreeSet K) × (a ≡ Some u) × (seen_set R u ≡ s)
  seen_some None s e = absurd cc
  seen_some (Some u) s e = (u, refl, cc)
