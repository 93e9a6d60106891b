-- What is added to a set, step by step: sets as tests.
use Rattle.std.specs.Prelude.{◌≡◌, ◌⊎◌, Bool, true}
use Rattle.std.specs.declared.cmp.Ordering.{Ordering}
use Rattle.std.specs.BTreeSet.{BTreeSet, contains}

-- the new one has what the old one has and all with P, and nothing else
abbrev pub Adds : {X : Type 0} → (X → Type 0) → (X → Bool) → (X → Bool) → Type 0
Adds {X} P old new = (x : X) → (new x ≡ true → (old x ≡ true) ⊎ P x) × ((old x ≡ true) ⊎ P x → new x ≡ true)

-- the new one has nothing but what the old one has and some with P
abbrev pub AddsOnly : {X : Type 0} → (X → Type 0) → (X → Bool) → (X → Bool) → Type 0
AddsOnly {X} P old new = (x : X) → new x ≡ true → (old x ≡ true) ⊎ P x

-- some key of the set gives x
abbrev pub Among : {K X : Type 0} → (K → K → Ordering) → BTreeSet K → (K → X → Type 0) → X → Type 0
Among {K} R s P x = (k : K) × (contains R s k ≡ true) × P k x
