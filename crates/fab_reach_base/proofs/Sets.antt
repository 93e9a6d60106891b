-- Ordered sets that grow.
use Rattle.std.proofs.Common.{◌≡◌, [], Bool, true, false, cond, Contains, IsTrue, ◌⊎◌, inl, inr, refl, sym, ap, ◌∙◌, subst, rules, arith}
use Rattle.std.specs.declared.cmp.Ordering.{Ordering}
use Rattle.std.specs.Ordering.{is_eq}
use Rattle.std.specs.Cmp.{IsTotalOrder, Equal-is, tied_itself}
use Rattle.std.proofs.lemmas.Map.Views.{btree_set_contains_iff}
use Rattle.std.specs.BTreeMap.{is_at}
use Rattle.std.specs.BTreeSet.{BTreeSet, contains}
use Rattle.std.specs.FinSet as set
use Rattle.fab_reach_base.specs.Adding.{Adds}

yes : IsTrue true
yes = search rules

module _ {K : Type 0} {R : K → K → Ordering} (o : IsTotalOrder R) (exact : set.IsAntisymmetric R) where
  -- an insertion adds its key
  pub adds_insert : (s n : BTreeSet K) (k : K) → ((q : K) → contains R n q ≡ cond (is_at (R k) q) true (contains R s q)) → Adds (λ y. y ≡ k) (λ y. IsTrue (contains R s y)) (λ y. IsTrue (contains R n y))
  adds_insert s n k u = record {
    sound = λ y h. came y (is_at (R k) y) refl (subst IsTrue (u y) h);
    kept = λ y h. subst IsTrue (sym (u y)) (still (is_at (R k) y) (contains R s y) h);
    there = λ y e. subst (λ z. IsTrue (contains R n z)) (sym e) (subst IsTrue (sym (u k ∙ ap (λ b. cond b true (contains R s k)) (ap is_eq (tied_itself o k)))) yes);
  }
    where
      came : (y : K) (b : Bool) → is_at (R k) y ≡ b → IsTrue (cond b true (contains R s y)) → IsTrue (contains R s y) ⊎ (y ≡ k)
      came y true is h = inr (sym (exact k y ((Equal-is (R k y)).0 is)))
      came y false is h = inl h

      still : (b c : Bool) → IsTrue c → IsTrue (cond b true c)
      still true c h = yes
      still false c h = h

  -- a set of nothing
  pub none_in : (s : BTreeSet K) → s.keys ≡ [] → (y : K) → ¬ IsTrue (contains R s y)
  none_in s none y h = let k = subst (λ ys. Contains ys y) none ((btree_set_contains_iff o exact s y).0 h) in let l = k.1 in omega arith
