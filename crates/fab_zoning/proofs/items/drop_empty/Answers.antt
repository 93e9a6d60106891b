use Rattle.std.proofs.Common.{◌≡◌, None, Some, Bool, true, false, cond, refl, sym, ap, ◌∙◌, subst}
use Rattle.std.specs.declared.cmp.Ordering.{Ordering}
use Rattle.std.specs.BTreeMap.{BTreeMap, get, is_at}
use Rattle.std.specs.BTreeSet.{BTreeSet, contains}
use Rattle.std.specs.Cmp.{Equal-is}
use Rattle.std.specs.FinSet as set
use Rattle.fab_zoning_rows.specs.fab_lemmas.MapsOfSets.{in_tree}
use Rattle.fab_zoning.specs.Edits.{HasItems}
use Rattle.fab_zoning.proofs.items.drop_empty.Goals as goal

module _ {Q X : Type 0} (O : Q → Q → Ordering) (R : X → X → Ordering) (exact : set.IsAntisymmetric O) (t : BTreeMap Q (BTreeSet X)) (k : Q) where
  -- every set but that of the key has an item
  abbrev OthersHave : Type 0
  OthersHave = (q : Q) (s : BTreeSet X) → is_at (O k) q ≡ false → get O t q ≡ Some s → (x : X) × (contains R s x ≡ true)

  module _ (u : BTreeMap Q (BTreeSet X)) (updates : (q : Q) → get O u q ≡ cond (is_at (O k) q) None (get O t q)) where
    -- a set in which nothing is can go
    same_without : ((x : X) → in_tree R (get O t k) x ≡ false) → (q : Q) (x : X) → in_tree R (get O u q) x ≡ in_tree R (get O t q) x
    same_without bare q x = ap (λ s. in_tree R s x) (updates q) ∙ by (is_at (O k) q) refl
      where
        by : (b : Bool) → is_at (O k) q ≡ b → in_tree R (cond b None (get O t q)) x ≡ in_tree R (get O t q) x
        by true is = sym (bare x) ∙ ap (λ p. in_tree R (get O t p) x) (exact k q ((Equal-is (O k q)).0 is))
        by false is = refl

    some_without : OthersHave → HasItems O R u
    some_without others q s at = by (is_at (O k) q) refl (sym (updates q) ∙ at)
      where
        by : (b : Bool) → is_at (O k) q ≡ b → cond b None (get O t q) ≡ Some s → (x : X) × (contains R s x ≡ true)
        by true is e = absurd cc
        by false is e = others q s is e

  -- where the key's set has an item, each has one
  some_with : ((x : X) × (in_tree R (get O t k) x ≡ true)) → OthersHave → HasItems O R t
  some_with w others q s at = by (is_at (O k) q) refl
    where
      by : (b : Bool) → is_at (O k) q ≡ b → (x : X) × (contains R s x ≡ true)
      by true is = (w.0, ap (λ o. in_tree R o w.0) (sym at) ∙ ap (λ p. in_tree R (get O t p) w.0) (sym (exact k q ((Equal-is (O k q)).0 is))) ∙ w.1)
      by false is = others q s is at

pub returns-then-is_bare-clause-same : goal.returns-then-is_bare-clause-same
returns-then-is_bare-clause-same g c =
    same_without g.Q.Ord.cmp g.X.Ord.cmp g.met.Q.Key.exact c.args.sets.now c.args.key.now c.remove.new.self c.remove.ensures.updates.0
    (subst (λ o. (x : g.row.X.Denot) → in_tree g.X.Ord.cmp o x ≡ false) c.get.ensures.value c.if-is_bare.ensures.bare)

pub returns-then-is_bare-clause-some : goal.returns-then-is_bare-clause-some
returns-then-is_bare-clause-some g c = some_without g.Q.Ord.cmp g.X.Ord.cmp g.met.Q.Key.exact c.args.sets.now c.args.key.now c.remove.new.self c.remove.ensures.updates.0

pub returns-else-is_bare-clause-some : goal.returns-else-is_bare-clause-some
returns-else-is_bare-clause-some g c =
    some_with g.Q.Ord.cmp g.X.Ord.cmp g.met.Q.Key.exact c.args.sets.now c.args.key.now (subst (λ o. (x : g.row.X.Denot) × (in_tree g.X.Ord.cmp o x ≡ true)) c.get.ensures.value c.if-is_bare.ensures.some)
