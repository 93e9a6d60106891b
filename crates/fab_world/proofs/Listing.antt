-- The entries of a map, and the names of a list, as a test goes through them.
use Rattle.std.proofs.Common.{ℕ, ◌≡◌, List, ◌∷◌, ◌++◌, All, Contains, length, Some, true, sym, ◌∙◌, subst}
use Rattle.std.specs.BTreeMap.{is_at}
use Rattle.std.specs.BTreeSet.{BTreeSet, contains}
use Rattle.std.specs.Cmp.{eq_by_cmp_equiv}
use Rattle.std.specs.FinMap as map
use Rattle.std.specs.List.{list_any, IsDistinct}
use Rattle.std.specs.List.Sorted.{IsStrictlySortedBy}
use Rattle.std.specs.Map.{lookup, keys_of}
use Rattle.std.specs.Ordering.{eq_by_cmp}
use Rattle.std.specs.Set.{distinct_count}
use Rattle.std.proofs.lemmas.List.Elements.{All-contains, All-contains_itself, All-weaker}
use Rattle.std.proofs.lemmas.Map.Keys.{IsDistinct-from_sorted}
use Rattle.std.proofs.lemmas.Map.Made.{length-from_keys, IsDistinct-from_count, distinct_count-from_IsDistinct, is_member-Decides}
use Rattle.fab_reach_base.proofs.fab_lemmas.SeenEntries.{entry_decides}
use Rattle.fab_reach_base.proofs.fab_lemmas.SeenMaps.{get_entries, entries_made}
use Rattle.fab_reach_base.proofs.fab_lemmas.SeenSets.{tie_decides}
use Rattle.fab_reach_base.specs.fab_names.Orders.{name_cmp}
use Rattle.fab_reach_base.proofs.fab_names.OrderLaws.{name_total, name_exact}
use Rattle.fab_reach_base.proofs.Scanning.{AllSoFar, is_in_map}

module _ {X : Type 0} (es : List (List ℕ × X)) (sorted : IsStrictlySortedBy name_cmp (keys_of es)) where
  listed : es ≡ map.entries (map.from_entries {R = name_cmp} es)
  listed = sym (entries_made name_total name_exact es sorted)

  -- where the walk stands is one of the entries
  pub stands_there : (before it more : List (List ℕ × X)) (e : List ℕ × X) → es ≡ before ++ it → it ≡ e ∷ more → lookup (is_at (name_cmp e.0)) es ≡ Some e.1
  stands_there before it more e so_far next = sym (get_entries name_total es e.0) ∙ is_in_map name_total name_exact (map.from_entries es) es before it more e listed so_far next

  -- what all entries have, each look-up has
  pub all_there : (Q : List ℕ × X → Type 0) (before : List (List ℕ × X)) → before ≡ es → AllSoFar Q before → (k : List ℕ) (x : X) → lookup (is_at (name_cmp k)) es ≡ Some x → Q (k, x)
  all_there Q before whole all k x there =
      all (k, x) (subst (λ ys. Contains ys (k, x)) (sym (whole ∙ listed)) ((entry_decides name_cmp name_total name_exact (map.from_entries es) k x).0 (get_entries name_total es k ∙ there)))

-- ---- a list of names, and the set of it

module _ (names : List (List ℕ)) (s : BTreeSet (List ℕ)) (sorted : IsStrictlySortedBy name_cmp s.keys) (made : (x : List ℕ) → contains name_cmp s x ≡ list_any (eq_by_cmp name_cmp x) names) where
  count : length s.keys ≡ distinct_count (eq_by_cmp name_cmp) names
  count = length-from_keys (eq_by_cmp_equiv name_total) s.keys names (IsDistinct-from_sorted name_cmp s.keys sorted) made

  -- each name is there once where the set is as large as the list
  pub each_once : length s.keys ≡ length names → IsDistinct (eq_by_cmp name_cmp) names
  each_once same = IsDistinct-from_count (eq_by_cmp_equiv name_total) names (sym count ∙ same)

  pub as_large : IsDistinct (eq_by_cmp name_cmp) names → length s.keys ≡ length names
  as_large once = count ∙ distinct_count-from_IsDistinct (eq_by_cmp_equiv name_total) names once

  -- a name of the list is one of the set
  pub in_set : (x : List ℕ) → Contains names x → contains name_cmp s x ≡ true
  in_set x h = made x ∙ (is_member-Decides (tie_decides name_total name_exact) names x).1 h

  pub in_list : (x : List ℕ) → contains name_cmp s x ≡ true → Contains names x
  in_list x h = (is_member-Decides (tie_decides name_total name_exact) names x).0 (sym (made x) ∙ h)

-- what all names of a list have
pub each_has : {K : Type 0} (P : K → Type 0) (xs : List K) → All P xs → (x : K) → Contains xs x → P x
each_has P xs all x h = All-contains P xs x all h

pub all_have : {K : Type 0} (P : K → Type 0) (xs : List K) → ((x : K) → Contains xs x → P x) → All P xs
all_have P xs h = All-weaker (Contains xs) P h xs (All-contains_itself xs)
