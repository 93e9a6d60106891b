-- What one set of paths has and another lacks.
use Rattle.std.proofs.Common.{◌≡◌, List, Bool, true, false, not, ◌&&◌, refl, sym, ◌∙◌, subst}
use mathlib.Core.Bool.{true≢false}
use Rattle.std.specs.List.Sorted.{IsStrictlySortedBy}
use Rattle.std.specs.BTreeSet.{BTreeSet, contains, difference, IsDifference}
use Rattle.std.proofs.lemmas.Map.Made.{is_member-Decides}
use Rattle.fab_lemmas.proofs.SeenSets.{tie_decides}
use Rattle.fab_reach_base.specs.Records.{Records}
use Rattle.fab_reach_base.specs.Orders.{path_cmp, Has, IsListOf}
use Rattle.fab_reach_base.specs.Books.{IsGained, IsDelta, AreReached}
use Rattle.fab_reach_base.specs.declared.path.Path.{Path}
use Rattle.fab_reach_base.specs.PathOrder.{path_total, path_exact}
use Rattle.fab_reach_base.proofs.Books.{list_as}

both : (a b : Bool) → (a && not b) ≡ true → (a ≡ true) × ((b ≡ true) → ⊥)
both true true h = absurd (true≢false (sym h))
both true false h = (refl, λ e. true≢false (sym e))
both false b h = absurd (true≢false (sym h))

back : (a b : Bool) → a ≡ true → ((b ≡ true) → ⊥) → (a && not b) ≡ true
back true true e n = absurd (n refl)
back true false e n = refl
back false b e n = absurd (true≢false (sym e))

-- the keys of a set that another lacks
pub without_list : (s t : BTreeSet Path) (ks xs : List Path) → IsDifference path_cmp s t ks → IsStrictlySortedBy path_cmp ks → ks ≡ difference path_cmp s t → xs ≡ difference path_cmp s t → IsListOf (λ x. Has s x × ¬ Has t x) xs
without_list s t ks xs members ordered rest is = subst (IsListOf (λ x. Has s x × ¬ Has t x)) (rest ∙ sym is) (record {
  sorted = ordered;
  sound = λ x h. both (contains path_cmp s x) (contains path_cmp t x) (sym (members x) ∙ (is_member-Decides (tie_decides path_total path_exact) ks x).1 h);
  complete = λ x h. (is_member-Decides (tie_decides path_total path_exact) ks x).0 (members x ∙ back (contains path_cmp s x) (contains path_cmp t x) h.0 h.1);
})

pub delta_of : (w v : Records) (s t : BTreeSet Path) (gained lost : List Path) → AreReached w (Has s) → AreReached v (Has t) → IsListOf (λ x. Has t x × ¬ Has s x) gained → IsListOf (λ x. Has s x × ¬ Has t x) lost → IsDelta w v gained lost
delta_of w v s t gained lost a b g l = record {
  gains = list_as (λ x. Has t x × ¬ Has s x) (IsGained w v) gained (λ x h. record { now = (b x).0 h.0; before = λ r. h.1 ((a x).1 r) }) (λ x h. ((b x).1 h.now, λ o. h.before ((a x).0 o))) g;
  loses = list_as (λ x. Has s x × ¬ Has t x) (IsGained v w) lost (λ x h. record { now = (a x).0 h.0; before = λ r. h.1 ((b x).1 r) }) (λ x h. ((a x).1 h.now, λ o. h.before ((b x).0 o))) l;
}
