-- How many there are, by lists of them.
use Rattle.std.proofs.Common.{ℕ, ◌≡◌, ◌<◌, ◌≤◌, nat_le, nat_lt, true, List, [], ◌∷◌, length, map as each, refl, sym, ap, ◌∙◌, subst}
use Rattle.std.specs.declared.cmp.Ordering.{Ordering}
use Rattle.std.specs.BTreeSet.{BTreeSet}
use Rattle.std.specs.Cmp.{IsTotalOrder}
use Rattle.std.specs.FinMap as map
use Rattle.std.specs.FinSet as set
use Rattle.std.specs.Map.{keys_of}
use Rattle.std.specs.List.Sorted.{IsStrictlySortedBy}
use Rattle.std.proofs.lemmas.List.{length-map}
use Rattle.fab_reach_base.specs.fab_lemmas.MapsOfSets.{seen_set, seen_sets}
use Rattle.fab_reach_base.proofs.fab_lemmas.Tests.{within, from_within, below, from_below}
use Rattle.fab_reach_base.proofs.fab_lemmas.SeenMaps.{len_entries}
use Rattle.fab_reach_base.proofs.fab_lemmas.SeenSets.{len_seen}
use Rattle.fab_reach_base.specs.fab_names.declared.fabric.Fabric.{Fabric}
use Rattle.fab_reach_base.specs.fab_names.declared.fabric.Fabric.TheVariants.{A, B}
use Rattle.fab_reach_base.specs.fab_names.Orders.{name_cmp}
use Rattle.fab_reach_base.proofs.fab_names.OrderLaws.{name_total}
use Rattle.fab_reach_base.specs.fab_zoning.Zonings.{NamedSets}

-- a finite set has as many items as are listed in order
pub set_counted : {K : Type 0} {R : K → K → Ordering} → IsTotalOrder R → (ks : List K) (s : set.FinSet R) → set.from_list ks ≡ s → IsStrictlySortedBy R ks → set.len s ≡ length ks
set_counted o ks s is sorted = ap set.len (sym is) ∙ len_seen o ks sorted

module _ {K : Type 0} (R : K → K → Ordering) where
  same_keys : (es : List (List ℕ × BTreeSet K)) → keys_of (each (λ (e : List ℕ × BTreeSet K). (e.0, seen_set R e.1)) es) ≡ keys_of es
  same_keys [] = refl
  same_keys (e ∷ es) = ap (λ (ks : List (List ℕ)). e.0 ∷ ks) (same_keys es)

  -- and a map of sets as many names
  pub sets_counted : (es : List (List ℕ × BTreeSet K)) (m : NamedSets R) → seen_sets name_cmp R es ≡ m → IsStrictlySortedBy name_cmp (keys_of es) → map.len m ≡ length es
  sets_counted es m is sorted =
      ap map.len (sym is)
      ∙ len_entries name_total (each (λ (e : List ℕ × BTreeSet K). (e.0, seen_set R e.1)) es) (subst (IsStrictlySortedBy name_cmp) (sym (same_keys es)) sorted)
      ∙ length-map es (λ e. (e.0, seen_set R e.1))

-- what a test of a count tells of what is counted
pub is_few : (r n most : ℕ) → r ≡ n → (nat_le r most ≡ true → n ≤ most) × (n ≤ most → nat_le r most ≡ true)
is_few r n most e = (λ t. subst (λ k. k ≤ most) e (from_within r most t), λ h. within r most (subst (λ k. k ≤ most) (sym e) h))

pub is_some : (r n : ℕ) → r ≡ n → (nat_lt 0 r ≡ true → 0 < n) × (0 < n → nat_lt 0 r ≡ true)
is_some r n e = (λ t. subst (λ k. 0 < k) e (from_below 0 r t), λ h. below 0 r (subst (λ k. 0 < k) (sym e) h))

-- both fabrics
pub both_fabrics : (P : Fabric → Type 0) → P A → P B → (f : Fabric) → P f
both_fabrics P a b A = a
both_fabrics P a b B = b
