-- Maps of sets of which some keys get new sets.
use Rattle.std.specs.Prelude.{◌≡◌, ◌↔◌, List, ℕ, Option, None, Some, Bool, true}
use Rattle.std.specs.declared.cmp.Ordering.{Ordering}
use Rattle.std.specs.BTreeMap.{BTreeMap, get}
use Rattle.std.specs.BTreeSet.{BTreeSet, contains}
use Rattle.fab_names.specs.Orders.{name_cmp}
use Rattle.fab_lemmas.specs.MapsOfSets.{tree_has}
use Rattle.fab_mapping.specs.Mappings.{MappingRows}
use Rattle.fab_reach_base.specs.Gathering.{Index, IsServed}

-- the new set, if there is one, and else the old one
abbrev pub set_or : {K : Type 0} → (K → K → Ordering) → Option (BTreeSet K) → Bool → K → Bool
set_or R None old k = old
set_or R (Some s) old k = contains R s k

-- whether the map has k at q, once it has the new sets
abbrev pub patched : {Q K : Type 0} → (Q → Q → Ordering) → (K → K → Ordering) → BTreeMap Q (BTreeSet K) → BTreeMap Q (BTreeSet K) → Q → K → Bool
patched O R new old q k = set_or R (get O new q) (tree_has O R old q k) k

-- with the new sets the map has just the exposed storage groups that serve each host
abbrev pub IsRenewedIndex : MappingRows → Index → Index → Type 0
IsRenewedIndex m new old = (host n : List ℕ) → (patched name_cmp name_cmp new old host n ≡ true) ↔ IsServed m (host, n)
