-- Where the sets of a map lead, once some items have gone and others have come.
use Rattle.std.proofs.Common.{◌≡◌, Bool, true, false, inl, inr, refl, sym, ◌∙◌}
use mathlib.Core.Bool.{true≢false}
use Rattle.std.specs.declared.cmp.Ordering.{Ordering}
use Rattle.std.specs.BTreeMap.{BTreeMap}
use Rattle.std.specs.BTreeSet.{BTreeSet}
use Rattle.fab_lemmas.specs.MapsOfSets.{tree_has}
use Rattle.fab_reach_index.specs.Indexes.{IsTreeOf}
use Rattle.fab_reach_index.specs.Inner.Regathering.{IsLeftAt}
use Rattle.fab_reach_books.specs.Renewed.{patched}
use Rattle.fab_reach_index.specs.Patches.{LeadsTo}
use Rattle.fab_reach_pairs.specs.Inner.Rows.{Goes}

off : (b : Bool) → ¬ (b ≡ true) → b ≡ false
off true none = absurd (none refl)
off false none = refl

module _ {Q K : Type 0} (O : Q → Q → Ordering) (R : K → K → Ordering) where
  pub leads_by : (P G C N : Q → K → Type 0) (old gone come new : BTreeMap Q (BTreeSet K)) → IsTreeOf O R P old → IsTreeOf O R G gone → IsTreeOf O R C come → Goes P G C N
      → ((q : Q) (k : K) → (patched O R new old q k ≡ true → IsLeftAt O R old gone come q k) × (IsLeftAt O R old gone come q k → patched O R new old q k ≡ true)) → LeadsTo O R N new old
  leads_by P G C N old gone come new p g c goes left q k = (
    (λ h. elim ((left q k).0 h) [
      | inl l ↦ goes.stays q k ((p q k).0 l.0) (λ x. true≢false (sym ((g q k).1 x) ∙ l.1))
      | inr l ↦ goes.comes q k ((c q k).0 l)
    ]),
    λ n. (left q k).1 (elim (goes.from q k n) [
      | inl l ↦ inl ((p q k).1 l.0, off (tree_has O R gone q k) (λ h. l.1 ((g q k).0 h)))
      | inr l ↦ inr ((c q k).1 l)
    ]),
  )
