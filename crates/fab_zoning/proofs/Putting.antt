-- One entry more under a name.
use Rattle.std.proofs.Common.{◌≡◌, [], ◌⊎◌, inl, inr, ⊎_elim, Option, None, Some, Bool, true, false, cond, refl, sym, ap, ◌∙◌, subst}
use mathlib.Core.Bool.{true≢false}
use Rattle.std.specs.declared.cmp.Ordering.{Ordering}
use Rattle.std.specs.Ordering.{is_eq, eq_by_cmp}
use Rattle.std.specs.BTreeMap.{is_at}
use Rattle.std.specs.BTreeSet.{BTreeSet, contains}
use Rattle.std.specs.List.{list_any}
use Rattle.std.specs.Cmp.{IsTotalOrder, Equal-is, tied_itself}
use Rattle.std.specs.FinSet as set
use Rattle.fab_zoning_rows.specs.fab_lemmas.MapsOfSets.{in_tree}
use Rattle.fab_zoning_rows.proofs.fab_lemmas.Adding.{tree_adds_one}
use Rattle.fab_zoning.specs.Edits.{Puts}

module _ {Q S E : Type 0} {O : Q → Q → Ordering} (o : IsTotalOrder O) (exact : set.IsAntisymmetric O) (H : Option S → E → Type 0) where
  -- what stands under a name has one entry more, and the other names have what they had
  pub puts_under : (f g : Q → Option S) (k : Q) (w : S) (e : E) → ((q : Q) → g q ≡ cond (is_at (O k) q) (Some w) (f q)) → Puts e (H (f k)) (H (Some w)) → Puts {E = Q × E} (k, e) (λ d. H (f d.0) d.1) (λ d. H (g d.0) d.1)
  puts_under f g k w e updates puts d = (
    λ h. from (is_at (O k) d.0) refl (subst (λ s. H s d.1) (updates d.0) h),
    λ c. subst (λ s. H s d.1) (sym (updates d.0)) (to (is_at (O k) d.0) refl c),
  )
    where
      same_key : (q : Q) → is_at (O k) q ≡ true → k ≡ q
      same_key q is = exact k q ((Equal-is (O k q)).0 is)

      from : (b : Bool) → is_at (O k) d.0 ≡ b → H (cond b (Some w) (f d.0)) d.1 → H (f d.0) d.1 ⊎ (d ≡ (k, e))
      from true is h = let same = same_key d.0 is in ⊎_elim (λ old. inl (subst (λ q. H (f q) d.1) same old)) (λ item. inr (λ i. (sym same i, item i))) ((puts d.1).0 h)
      from false is h = inl h

      to : (b : Bool) → is_at (O k) d.0 ≡ b → H (f d.0) d.1 ⊎ (d ≡ (k, e)) → H (cond b (Some w) (f d.0)) d.1
      to true is c = let same = same_key d.0 is in ⊎_elim (λ old. (puts d.1).1 (inl (subst (λ q. H (f q) d.1) (sym same) old))) (λ whole. (puts d.1).1 (inr (ap (λ (x : Q × E). x.1) whole))) c
      to false is (inl old) = old
      to false is (inr whole) =
          let tied : is_at (O k) d.0 ≡ true = ap (λ (x : Q × E). is_at (O k) x.0) whole ∙ ap is_eq (tied_itself o k) in absurd (true≢false (sym tied ∙ is))

-- the first item of a set
pub puts_first_item : {X : Type 0} {R : X → X → Ordering} → IsTotalOrder R → set.IsAntisymmetric R → (s w : BTreeSet X) (v : X) (o : Option (BTreeSet X)) → s.keys ≡ [] → None ≡ o → ((q : X) → contains R w q ≡ cond (is_at (R v) q) true (contains R s q))
    → Puts v (λ x. in_tree R o x ≡ true) (λ x. contains R w x ≡ true)
puts_first_item {R = R} total exact s w v o empty none updates =
    subst (λ (f : _ → Bool). Puts v (λ x. f x ≡ true) (λ x. contains R w x ≡ true)) (λ i x. (ap (λ ks. list_any (eq_by_cmp R x) ks) empty ∙ ap (λ p. in_tree R p x) none) i) (tree_adds_one total exact s w v updates)
