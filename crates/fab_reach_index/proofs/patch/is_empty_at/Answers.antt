use Rattle.std.proofs.Common.{◌≡◌, List, [], ◌∷◌, length, Bool, false, Option, refl, sym, ap, ◌∙◌, arith}
use mathlib.Core.Bool.{true≢false}
use Rattle.std.specs.List.{list_any}
use Rattle.std.specs.BTreeMap.{is_at}
use Rattle.std.specs.BTreeSet.{BTreeSet}
use Rattle.fab_lemmas.specs.MapsOfSets.{in_tree}
use Rattle.fab_reach_index.proofs.patch.is_empty_at.Goals as goal

none_found : {K : Type 0} (test : K → Bool) (ks : List K) → length ks ≡ 0 → list_any test ks ≡ false
none_found test [] e = refl
none_found test (k ∷ ks) e = absurd (omega (arith, e))

pub returns-in-Some : goal.returns-in-Some
returns-in-Some g c t k = ap (λ (o : Option (BTreeSet g.row.K.Denot)). in_tree g.K.Ord.cmp o k) (sym c.in-Some.ensures.value) ∙ none_found (is_at (g.K.Ord.cmp k)) c.in-Some.set.now.keys (c.is_empty.ensures.0 t)

pub returns-in-None : goal.returns-in-None
returns-in-None g c t k = absurd (true≢false (sym t))
