-- Rows, and the entries that they say.
use Rattle.std.specs.Prelude.{◌≡◌, ◌≢◌, List, Contains, Option, Some}
use Rattle.std.specs.declared.cmp.Ordering.{Ordering}
use Rattle.std.specs.Option.{option_and_then}
use Rattle.std.specs.BTreeMap.{BTreeMap, get}

-- the rows say all that has P, and nothing else: an entry's row is among them exactly where the entry
-- has P
pub record AreRows {R E : Type 0} (row_of : E → R) (rows : List R) (P : E → Type 0) : Type 0 where
  pub sound : (e : E) → Contains rows (row_of e) → P e
  pub complete : (e : E) → P e → Contains rows (row_of e)

-- two rows have one key, and differ
abbrev pub HasRepeat : {R K X : Type 0} → (K × X → R) → List R → Type 0
HasRepeat {R} {K} {X} row_of rows = (k : K) × (v : X) × (w : X) × Contains rows (row_of (k, v)) × Contains rows (row_of (k, w)) × (v ≢ w)

-- the value stands at the key
abbrev pub StandsIn : {K X : Type 0} → (K → Option X) → K × X → Type 0
StandsIn f e = f e.0 ≡ Some e.1

-- ---- maps under names

-- what stands at the key in the map of the name
abbrev pub at : {Q K X : Type 0} → (Q → Q → Ordering) → (K → K → Ordering) → BTreeMap Q (BTreeMap K X) → Q × K → Option X
at O R t k = option_and_then (λ s. get R s k.1) (get O t k.0)

-- the value stands at the key in the map of the name
abbrev pub IsAt : {Q K X : Type 0} → (Q → Q → Ordering) → (K → K → Ordering) → BTreeMap Q (BTreeMap K X) → (Q × K) × X → Type 0
IsAt O R t = StandsIn (at O R t)

-- no map is empty
abbrev pub HasEntries : {Q K X : Type 0} → (Q → Q → Ordering) → (K → K → Ordering) → BTreeMap Q (BTreeMap K X) → Type 0
HasEntries {Q} {K} {X} O R t = (q : Q) (s : BTreeMap K X) → get O t q ≡ Some s → (k : K) × (x : X) × (get R s k ≡ Some x)
