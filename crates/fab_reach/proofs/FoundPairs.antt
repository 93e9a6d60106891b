-- The set of the pairs that are found, and its list.
use Rattle.std.proofs.Common.{ℕ, ◌≡◌, List, [], Bool, true, false, IsTrue, ◌⊎◌, inl, inr, refl, sym, ◌∙◌, subst}
use mathlib.Core.Bool.{true≢false}
use Rattle.std.specs.BTreeSet.{BTreeSet, IsOrdered, contains}
use Rattle.std.proofs.lemmas.Map.Views.{btree_set_contains_iff}
use Rattle.fab_names.specs.declared.fabric.Fabric.{Fabric}
use Rattle.fab_reach_base.specs.Adding.{Adds}
use Rattle.fab_reach_base.specs.Records.{Records}
use Rattle.fab_reach_base.specs.Serving.{IsServing}
use Rattle.fab_reach_base.proofs.Sets.{none_in}
use Rattle.fab_reach_books.specs.KeyLaws.{pair_total, pair_exact}
use Rattle.fab_reach_moves.specs.Moves.{AreMoved, AreTouched, AreFlagged}
use Rattle.fab_reach_books.specs.Inner.Sets.{HasPairIn}
use Rattle.fab_reach_pairs.specs.Inner.Finding.{IsFound}
use Rattle.fab_reach_books.specs.Inner.Moving.{IsMoving}
use Rattle.fab_reach_books.specs.Pairs.{Pair, pair_cmp, AreChanged}
use Rattle.fab_reach.proofs.FoundMoves.{found_moves, not_moving}
use Rattle.fab_reach_books.proofs.Staying.{moving_is_affected, differing_is_moving}

-- four sets of pairs, added one after the other
pub found_all : (P Q R S : Pair → Type 0) (s0 s1 s2 s3 s4 : BTreeSet Pair) → s0.keys ≡ [] → Adds P (HasPairIn s0) (HasPairIn s1) → Adds Q (HasPairIn s1) (HasPairIn s2) → Adds R (HasPairIn s2) (HasPairIn s3) → Adds S (HasPairIn s3) (HasPairIn s4)
    → (e : Pair) → (HasPairIn s4 e → P e ⊎ (Q e ⊎ (R e ⊎ S e))) × (P e ⊎ (Q e ⊎ (R e ⊎ S e)) → HasPairIn s4 e)
found_all P Q R S s0 s1 s2 s3 s4 none a b c d e = (
  (λ h. elim (d.sound e h) [
    | inr s ↦ inr (inr (inr s))
    | inl h3 ↦ elim (c.sound e h3) [
      | inr r ↦ inr (inr (inl r))
      | inl h2 ↦ elim (b.sound e h2) [
        | inr q ↦ inr (inl q)
        | inl h1 ↦ elim (a.sound e h1) [ inr p ↦ inl p | inl h0 ↦ absurd (none_in pair_total pair_exact s0 none e h0) ]
      ]
    ]
  ]),
  λ k. elim k [
    | inl p ↦ d.kept e (c.kept e (b.kept e (a.there e p)))
    | inr k ↦ elim k [ inl q ↦ d.kept e (c.kept e (b.there e q)) | inr k ↦ elim k [ inl r ↦ d.kept e (c.there e r) | inr s ↦ d.there e s ] ]
  ],
)

-- the list of the set is what is asked about
pub list_changed : (w v : Records) (moved : BTreeSet ℕ) (touched : BTreeSet (List ℕ)) (flagged : Fabric → Bool) → IsServing w → IsServing v → AreMoved w v moved → AreTouched w v touched → AreFlagged w v flagged
    → (s : BTreeSet Pair) (xs : List Pair) → IsOrdered pair_cmp s → xs ≡ s.keys → ((e : Pair) → (HasPairIn s e → IsFound w v moved touched flagged e.0 e.1) × (IsFound w v moved touched flagged e.0 e.1 → HasPairIn s e)) → AreChanged w v xs
list_changed w v moved touched flagged sw sv m t f s xs ordered is all = subst (AreChanged w v) (sym is) (record {
  once = ordered;
  within = λ p q h. moving_is_affected w v p q sw sv (found_moves w v moved touched flagged m t f p q ((all (p, q)).0 ((btree_set_contains_iff pair_total pair_exact s (p, q)).1 h)));
  all = λ p q d. (btree_set_contains_iff pair_total pair_exact s (p, q)).0 (there p q (differing_is_moving w v p q sw sv d) (contains pair_cmp s (p, q)) refl);
})
  where
    there : (p q : ℕ) → IsMoving w v p q → (b : Bool) → contains pair_cmp s (p, q) ≡ b → HasPairIn s (p, q)
    there p q k true at = subst IsTrue (sym at) refl
    there p q k false at = absurd (not_moving w v moved touched flagged m t f p q (λ found. absurd (true≢false (sym ((all (p, q)).1 found) ∙ at))) k)
