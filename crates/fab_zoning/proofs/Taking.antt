-- One entry less under a name.
use Rattle.std.proofs.Common.{◌≡◌, Option, Some, Bool, true, false, cond, refl, sym, ap, ◌∙◌, subst}
use mathlib.Core.Bool.{true≢false}
use Rattle.std.specs.declared.cmp.Ordering.{Ordering}
use Rattle.std.specs.Ordering.{is_eq}
use Rattle.std.specs.BTreeMap.{is_at}
use Rattle.std.specs.BTreeSet.{BTreeSet, contains}
use Rattle.std.specs.Cmp.{IsTotalOrder, Equal-is, tied_itself}
use Rattle.std.specs.FinSet as set
use Rattle.fab_zoning.specs.Edits.{Takes}

module _ {Q S E : Type 0} {O : Q → Q → Ordering} (o : IsTotalOrder O) (exact : set.IsAntisymmetric O) (H : Option S → E → Type 0) where
  -- what stands under a name has one entry less, and the other names have what they had
  pub takes_under : (f g : Q → Option S) (k : Q) (w : S) (e : E) → ((q : Q) → g q ≡ cond (is_at (O k) q) (Some w) (f q)) → Takes e (H (f k)) (H (Some w)) → Takes {E = Q × E} (k, e) (λ d. H (f d.0) d.1) (λ d. H (g d.0) d.1)
  takes_under f g k w e updates takes d = (
    λ h. from (is_at (O k) d.0) refl (subst (λ s. H s d.1) (updates d.0) h),
    λ c. subst (λ s. H s d.1) (sym (updates d.0)) (to (is_at (O k) d.0) refl c.0 c.1),
  )
    where
      same_key : (q : Q) → is_at (O k) q ≡ true → k ≡ q
      same_key q is = exact k q ((Equal-is (O k q)).0 is)

      from : (b : Bool) → is_at (O k) d.0 ≡ b → H (cond b (Some w) (f d.0)) d.1 → H (f d.0) d.1 × ¬ (d ≡ (k, e))
      from true is h = let same = same_key d.0 is in let t = (takes d.1).0 h in (subst (λ q. H (f q) d.1) same t.0, λ whole. t.1 (ap (λ (x : Q × E). x.1) whole))
      from false is h = (h, λ whole. true≢false (sym (ap (λ (x : Q × E). is_at (O k) x.0) whole ∙ ap is_eq (tied_itself o k)) ∙ is))

      to : (b : Bool) → is_at (O k) d.0 ≡ b → H (f d.0) d.1 → ¬ (d ≡ (k, e)) → H (cond b (Some w) (f d.0)) d.1
      to true is h apart = let same = same_key d.0 is in (takes d.1).1 (subst (λ q. H (f q) d.1) (sym same) h, λ item. apart (λ i. (sym same i, item i)))
      to false is h apart = h

-- a set without an item
pub tree_takes_one : {X : Type 0} {R : X → X → Ordering} → IsTotalOrder R → set.IsAntisymmetric R → (s w : BTreeSet X) (v : X) → ((q : X) → contains R w q ≡ cond (is_at (R v) q) false (contains R s q))
    → Takes v (λ x. contains R s x ≡ true) (λ x. contains R w x ≡ true)
tree_takes_one {X} {R} o exact s w v updates d = (λ h. from (is_at (R v) d) refl (sym (updates d) ∙ h), λ c. updates d ∙ to (is_at (R v) d) refl c.0 c.1)
  where
    from : (b : Bool) → is_at (R v) d ≡ b → cond b false (contains R s d) ≡ true → (contains R s d ≡ true) × ¬ (d ≡ v)
    from true is h = absurd (true≢false (sym h))
    from false is h = (h, λ same. true≢false (sym (ap (λ x. is_at (R v) x) same ∙ ap is_eq (tied_itself o v)) ∙ is))

    to : (b : Bool) → is_at (R v) d ≡ b → contains R s d ≡ true → ¬ (d ≡ v) → cond b false (contains R s d) ≡ true
    to true is h apart = absurd (apart (sym (exact v d ((Equal-is (R v d)).0 is))))
    to false is h apart = h
