-- A property of each member or of each entry, where a search through all of them answered.
use Rattle.std.proofs.Common.{ℕ, ◌≡◌, ◌<◌, List, Contains, Bool, true, IsTrue, length, Some, sym, ap, ◌∙◌}
use Rattle.std.specs.declared.cmp.Ordering.{Ordering}
use Rattle.std.specs.Ordering.{nat_cmp}
use Rattle.std.specs.Bool.{MatchBool}
use Rattle.std.specs.Cmp.{IsTotalOrder, eq_by_cmp_equiv, nat_cmp_total}
use Rattle.std.specs.FinMap as map
use Rattle.std.specs.FinSet as set
use Rattle.std.specs.List.{AllWithin, HoldsAt}
use Rattle.std.proofs.lemmas.Bool.{MatchBool-at_true}
use Rattle.std.proofs.lemmas.Iterator.Search.{true_from_All}
use Rattle.std.proofs.lemmas.List.Elements.{All-contains, All-contains_itself, All-from_all_within, All-weaker}
use Rattle.std.proofs.lemmas.Map.Views.{Contains-from_any, All-from_any, tells_apart}
use Rattle.fab_inventory.proofs.fab_lemmas.SeenEntries.{entry_decides}

-- a search through all of a list answered whether each has P
abbrev pub Answers : {X : Type 0} → (X → Type 0) → List X → Bool → Type 0
Answers {X} P xs r = MatchBool r (AllWithin P xs 0 (length xs)) ((k : ℕ) × (k < length xs) × HoldsAt (λ x. ¬ P x) xs k)

-- the members of a set
pub members_have : {K : Type 0} {R : K → K → Ordering} → IsTotalOrder R → set.IsAntisymmetric R → (P : K → Type 0) (ks : List K) (s : set.FinSet R) (r : Bool) → set.from_list ks ≡ s → Answers P ks r
    → (IsTrue r → (x : K) → set.contains s x ≡ true → P x) × (((x : K) → set.contains s x ≡ true → P x) → IsTrue r)
members_have o exact P ks s r made answers = (
  λ t x there. All-contains P ks x (All-from_all_within P ks (MatchBool-at_true _ _ t answers)) (Contains-from_any (tells_apart exact) x ks (sym (set.contains-from_list o ks x) ∙ ap (λ y. set.contains y x) made ∙ there)),
  λ h. true_from_All P (λ x. ¬ P x) r ks (λ x p q. q p) answers (All-from_any (eq_by_cmp_equiv o) P ks (λ x there. h x (ap (λ y. set.contains y x) (sym made) ∙ set.contains-from_list o ks x ∙ there))),
)

-- the entries of a finite map
pub entries_have : {X : Type 0} (P : ℕ → X → Type 0) (m : map.FinMap nat_cmp X) (r : Bool) → Answers (λ (e : ℕ × X). P e.0 e.1) (map.entries m) r
    → (IsTrue r → (q : ℕ) (x : X) → map.get m q ≡ Some x → P q x) × (((q : ℕ) (x : X) → map.get m q ≡ Some x → P q x) → IsTrue r)
entries_have {X} P m r answers =
    let Q : (ℕ × X → Type 0) = λ (e : ℕ × X). P e.0 e.1 in (
      λ t q x at. All-contains Q (map.entries m) (q, x) (All-from_all_within Q (map.entries m) (MatchBool-at_true _ _ t answers)) ((entry_decides nat_cmp nat_cmp_total set.nat_cmp-IsAntisymmetric m q x).0 at),
      λ h. true_from_All Q (λ e. ¬ Q e) r (map.entries m) (λ e p q. q p) answers (All-weaker (Contains (map.entries m)) Q (λ e c. h e.0 e.1 ((entry_decides nat_cmp nat_cmp_total set.nat_cmp-IsAntisymmetric m e.0 e.1).1 c)) (map.entries m) (All-contains_itself (map.entries m))),
    )
