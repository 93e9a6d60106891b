-- Sets under names with one item more, or one less.
use Rattle.std.specs.Prelude.{ℕ, ◌≡◌, ◌⊎◌, List, true, Some}
use Rattle.std.specs.declared.cmp.Ordering.{Ordering}
use Rattle.std.specs.BTreeMap.{BTreeMap, get}
use Rattle.std.specs.BTreeSet.{BTreeSet}
use Rattle.std.specs.BTreeSet as tree
use Rattle.std.specs.FinMap as map
use Rattle.std.specs.FinSet as set
use Rattle.fab_zoning_rows.specs.fab_lemmas.MapsOfSets.{tree_has, has}
use Rattle.fab_zoning.specs.Zonings.{NamedSets}

-- what had P has Q, and so has this entry, and nothing else
abbrev pub Puts : {E : Type 0} → E → (E → Type 0) → (E → Type 0) → Type 0
Puts {E} e P Q = (d : E) → (Q d → P d ⊎ (d ≡ e)) × (P d ⊎ (d ≡ e) → Q d)

-- what had P has Q, but for this entry, and nothing else
abbrev pub Takes : {E : Type 0} → E → (E → Type 0) → (E → Type 0) → Type 0
Takes {E} e P Q = (d : E) → (Q d → P d × ¬ (d ≡ e)) × (P d × ¬ (d ≡ e) → Q d)

-- the set of the name has the item
abbrev pub IsItem : {K : Type 0} {R : K → K → Ordering} → NamedSets {K = K} R → List ℕ × K → Type 0
IsItem m e = has m e.0 e.1 ≡ true

-- no set is empty
abbrev pub HasSome : {K : Type 0} {R : K → K → Ordering} → NamedSets {K = K} R → Type 0
HasSome {K} {R} m = (n : List ℕ) (s : set.FinSet R) → map.get m n ≡ Some s → (x : K) × (set.contains s x ≡ true)

-- ---- the same of trees

-- the set of the key has the item
abbrev pub IsIn : {Q X : Type 0} → (Q → Q → Ordering) → (X → X → Ordering) → BTreeMap Q (BTreeSet X) → Q × X → Type 0
IsIn O R t e = tree_has O R t e.0 e.1 ≡ true

-- no set is empty
abbrev pub HasItems : {Q X : Type 0} → (Q → Q → Ordering) → (X → X → Ordering) → BTreeMap Q (BTreeSet X) → Type 0
HasItems {Q} {X} O R t = (q : Q) (s : BTreeSet X) → get O t q ≡ Some s → (x : X) × (tree.contains R s x ≡ true)
