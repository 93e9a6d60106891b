-- What each member of a finite set and each value of a finite map has, after a key more or a key less.
use Rattle.std.proofs.Common.{◌≡◌, Option, None, Some, is_some, Bool, true, false, cond, not, ◌⊎◌, inl, inr, refl, sym, ap, ◌∙◌, subst}
use mathlib.Core.Bool.{true≢false}
use Rattle.std.specs.declared.cmp.Ordering.{Ordering}
use Rattle.std.specs.Ordering.{eq_by_cmp}
use Rattle.std.specs.Cmp.{IsTotalOrder, Equal-is}
use Rattle.std.specs.FinMap as map
use Rattle.std.specs.FinSet as set
use Rattle.fab_lemmas.specs.MapsOfSets.{MapOfSets, has, in_set}
use Rattle.fab_lemmas.proofs.Tests.{or_true, right}

module _ {K : Type 0} {R : K → K → Ordering} (o : IsTotalOrder R) where
  -- ---- sets
  -- a member after an insertion is the new one, or was there
  pub member_put : set.IsAntisymmetric R → (s : set.FinSet R) (k x : K) → set.contains (set.insert s k) x ≡ true → (x ≡ k) ⊎ (set.contains s x ≡ true)
  member_put exact s k x h = elim (or_true (eq_by_cmp R x k) (set.contains s x) (sym (set.contains-insert o s k x) ∙ h)) [
    | inl e ↦ inl (exact x k ((Equal-is (R x k)).0 e))
    | inr e ↦ inr e
  ]

  -- a member after a removal was there
  pub member_gone : (s : set.FinSet R) (k x : K) → set.contains (set.remove s k) x ≡ true → set.contains s x ≡ true
  member_gone s k x h = right (not (eq_by_cmp R x k)) (set.contains s x) (sym (set.contains-remove o s k x) ∙ h)

  -- ---- values
  module _ {X : Type 0} (m : map.FinMap R X) (k : K) where
    -- what is under a key after an insertion is the new one, or was there
    pub entry_put : set.IsAntisymmetric R → (P : K → X → Type 0) (v : X) → P k v → ((n : K) (x : X) → map.get m n ≡ Some x → P n x) → (n : K) (x : X) → map.get (map.insert m k v) n ≡ Some x → P n x
    entry_put exact P v new all n x at = by (eq_by_cmp R n k) refl (sym (map.get-insert o m k v n) ∙ at)
      where
        by : (b : Bool) → eq_by_cmp R n k ≡ b → cond b (Some v) (map.get m n) ≡ Some x → P n x
        by true same e = let is : v ≡ x = cc in subst (P n) is (subst (λ q. P q v) (sym (exact n k ((Equal-is (R n k)).0 same))) new)
        by false same e = all n x e

    -- what is under a key after a removal was there
    pub entry_gone : (P : K → X → Type 0) → ((n : K) (x : X) → map.get m n ≡ Some x → P n x) → (n : K) (x : X) → map.get (map.remove m k) n ≡ Some x → P n x
    entry_gone P all n x at = by (eq_by_cmp R n k) (sym (map.get-remove o m k n) ∙ at)
      where
        by : (b : Bool) → cond b None (map.get m n) ≡ Some x → P n x
        by true e = absurd cc
        by false e = all n x e

    -- a key that is there stays after an insertion
    pub still_there : (v : X) (n : K) → map.contains_key m n ≡ true → map.contains_key (map.insert m k v) n ≡ true
    still_there v n h = ap is_some (map.get-insert o m k v n) ∙ by (eq_by_cmp R n k)
      where
        by : (b : Bool) → is_some (cond b (Some v) (map.get m n)) ≡ true
        by true = refl
        by false = h

    -- and after the removal of another
    pub there_without : set.IsAntisymmetric R → (n : K) → ¬ (n ≡ k) → map.contains_key m n ≡ true → map.contains_key (map.remove m k) n ≡ true
    there_without exact n apart h = ap is_some (map.get-remove o m k n) ∙ by (eq_by_cmp R n k) refl
      where
        by : (b : Bool) → eq_by_cmp R n k ≡ b → is_some (cond b None (map.get m n)) ≡ true
        by true is = absurd (apart (exact n k ((Equal-is (R n k)).0 is)))
        by false is = h

  -- ---- sets under keys
  module _ {J : Type 0} {S : J → J → Ordering} (m : MapOfSets R S) (k : K) where
    -- a member of a set after an insertion is one of the new set, or was there
    pub has_put : (s : set.FinSet S) (n : K) (x : J) → has (map.insert m k s) n x ≡ true → (set.contains s x ≡ true) ⊎ (has m n x ≡ true)
    has_put s n x h = by (eq_by_cmp R n k) (sym (ap (λ (a : Option (set.FinSet S)). in_set a x) (map.get-insert o m k s n)) ∙ h)
      where
        by : (b : Bool) → in_set (cond b (Some s) (map.get m n)) x ≡ true → (set.contains s x ≡ true) ⊎ (has m n x ≡ true)
        by true e = inl e
        by false e = inr e

    -- a member of a set after a removal was there
    pub has_gone : (n : K) (x : J) → has (map.remove m k) n x ≡ true → has m n x ≡ true
    has_gone n x h = by (eq_by_cmp R n k) (sym (ap (λ (a : Option (set.FinSet S)). in_set a x) (map.get-remove o m k n)) ∙ h)
      where
        by : (b : Bool) → in_set (cond b None (map.get m n)) x ≡ true → has m n x ≡ true
        by true e = absurd (true≢false (sym e))
        by false e = e
