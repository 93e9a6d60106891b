-- Finite maps to finite sets, and the trees that they are kept in.
use Rattle.std.specs.Prelude.{◌≡◌, List, map, Option, None, Some, Bool, true, false}
use Rattle.std.specs.declared.cmp.Ordering.{Ordering}
use Rattle.std.specs.Ordering.{is_gt}
use Rattle.std.specs.BTreeMap.{BTreeMap, get}
use Rattle.std.specs.BTreeSet.{BTreeSet, contains}
use Rattle.std.specs.FinMap as fin
use Rattle.std.specs.FinSet as set

-- a finite set at each of finitely many keys
abbrev pub MapOfSets : {Q K : Type 0} → (Q → Q → Ordering) → (K → K → Ordering) → Type 0
MapOfSets O R = fin.FinMap O (set.FinSet R)

-- whether there is a set, and it has x
abbrev pub in_set : {K : Type 0} {R : K → K → Ordering} → Option (set.FinSet R) → K → Bool
in_set None x = false
in_set (Some s) x = set.contains s x

-- whether the set at q has x
abbrev pub has : {Q K : Type 0} {O : Q → Q → Ordering} {R : K → K → Ordering} → MapOfSets O R → Q → K → Bool
has m q x = in_set (fin.get m q) x

-- no set has x
abbrev pub HasNoUser : {Q K : Type 0} {O : Q → Q → Ordering} {R : K → K → Ordering} → MapOfSets O R → K → Type 0
HasNoUser {Q} m x = (q : Q) → has m q x ≡ false

-- the set at q has x, and none before it has
pub record IsFirstUser {Q K : Type 0} {O : Q → Q → Ordering} {R : K → K → Ordering} (m : MapOfSets O R) (x : K) (q : Q) : Type 0 where
  pub uses : has m q x ≡ true
  pub first : (p : Q) → has m p x ≡ true → is_gt (O q p) ≡ false

-- ---- trees, as contracts see them

-- the set of a tree's keys
abbrev pub seen_set : {K : Type 0} (R : K → K → Ordering) → BTreeSet K → set.FinSet R
seen_set R s = set.from_list s.keys

-- the sets of a tree's entries
abbrev pub seen_sets : {Q K : Type 0} (O : Q → Q → Ordering) (R : K → K → Ordering) → List (Q × BTreeSet K) → MapOfSets O R
seen_sets O R es = fin.from_entries (map (λ e. (e.0, seen_set R e.1)) es)

-- whether there is a tree, and it has x
abbrev pub in_tree : {K : Type 0} → (K → K → Ordering) → Option (BTreeSet K) → K → Bool
in_tree R None x = false
in_tree R (Some s) x = contains R s x

-- whether the tree's set at q has x
abbrev pub tree_has : {Q K : Type 0} → (Q → Q → Ordering) → (K → K → Ordering) → BTreeMap Q (BTreeSet K) → Q → K → Bool
tree_has O R t q x = in_tree R (get O t q) x
