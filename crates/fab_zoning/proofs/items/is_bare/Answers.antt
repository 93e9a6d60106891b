use Rattle.std.proofs.Common.{◌≡◌, List, [], ◌∷◌, Bool, true, false, length, refl, sym, ap, ◌∙◌, arith}
use mathlib.Core.Bool.{true≢false}
use Rattle.std.specs.declared.cmp.Ordering.{Ordering}
use Rattle.std.specs.Bool.{OnTrue}
use Rattle.std.specs.Ordering.{eq_by_cmp}
use Rattle.std.specs.BTreeSet.{BTreeSet, contains}
use Rattle.std.specs.List.{list_any}
use Rattle.fab_zoning.proofs.SeenItems.{some_key, on_false}
use Rattle.fab_zoning.proofs.items.is_bare.Goals as goal

-- what a test that says yes shows
on_true : (b : Bool) (P : Type 0) → (b ≡ true → P) → OnTrue b P
on_true true P f = f refl
on_true false P f = tt

-- an empty set has nothing
no_key : {K : Type 0} (R : K → K → Ordering) (s : BTreeSet K) → length s.keys ≡ 0 → (x : K) → contains R s x ≡ false
no_key {K} R s none x = by s.keys refl
  where
    by : (ks : List K) → s.keys ≡ ks → contains R s x ≡ false
    by [] e = ap (list_any (eq_by_cmp R x)) e
    by (k ∷ ks) e = let len : length (k ∷ ks) ≡ 0 = sym (ap length e) ∙ none in absurd (omega arith)

pub returns-in-Some-clause-some : goal.returns-in-Some-clause-some
returns-in-Some-clause-some g c =
    rw c.in-Some.is (on_false c.is_empty.result _ (λ is. some_key g.met.X.Ord.total c.in-Some.set.now (λ none. true≢false (sym (c.is_empty.ensures.1 (ap length none)) ∙ is))))

pub returns-in-Some-clause-bare : goal.returns-in-Some-clause-bare
returns-in-Some-clause-bare g c = rw c.in-Some.is (on_true c.is_empty.result _ (λ is. no_key g.X.Ord.cmp c.in-Some.set.now (c.is_empty.ensures.0 is)))
