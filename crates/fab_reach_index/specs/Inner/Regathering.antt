-- The sets of a map, once some items have gone and others have come. No public contract of the room
-- names anything of this file.
use Rattle.std.specs.Prelude.{◌≡◌, ◌↔◌, ◌⊎◌, MatchOption, true, false, IsTrue}
use Rattle.std.specs.declared.cmp.Ordering.{Ordering}
use Rattle.std.specs.BTreeMap.{BTreeMap, get}
use Rattle.std.specs.BTreeSet.{BTreeSet, contains}
use Rattle.fab_lemmas.specs.MapsOfSets.{tree_has}

-- the set has the item
abbrev pub HasIn : {K : Type 0} → (K → K → Ordering) → BTreeSet K → K → Type 0
HasIn R s k = IsTrue (contains R s k)

module _ {Q K : Type 0} (O : Q → Q → Ordering) (R : K → K → Ordering) (old gone come : BTreeMap Q (BTreeSet K)) where
  -- the item was at the key and is not gone, or is come
  abbrev pub IsLeftAt : Q → K → Type 0
  IsLeftAt q k = ((tree_has O R old q k ≡ true) × (tree_has O R gone q k ≡ false)) ⊎ (tree_has O R come q k ≡ true)

  -- the set has just these items of the key
  abbrev pub IsLeft : Q → BTreeSet K → Type 0
  IsLeft q s = (k : K) → HasIn R s k ↔ IsLeftAt q k

  -- each of the sets does
  abbrev pub AreLeft : BTreeMap Q (BTreeSet K) → Type 0
  AreLeft t = (q : Q) → MatchOption (get O t q) (Unit {0}) (IsLeft q)
