-- Whether a finite map or a finite set may have one key more.
use Rattle.std.specs.Prelude.{ℕ, ◌≡◌, ◌<◌, ◌≤◌, ◌⊎◌, true, false}
use Rattle.std.specs.declared.cmp.Ordering.{Ordering}
use Rattle.std.specs.FinMap as map
use Rattle.std.specs.FinSet as set

-- the key is not there, and no more may be
abbrev pub IsFull : {Q X : Type 0} {O : Q → Q → Ordering} → map.FinMap O X → Q → ℕ → Type 0
IsFull m q most = (map.contains_key m q ≡ false) × (most ≤ map.len m)

-- the key is there, or one more may be
abbrev pub HasRoom : {Q X : Type 0} {O : Q → Q → Ordering} → map.FinMap O X → Q → ℕ → Type 0
HasRoom m q most = (map.contains_key m q ≡ true) ⊎ (map.len m < most)

-- x is not in the set, and no more may be
abbrev pub IsFullSet : {K : Type 0} {R : K → K → Ordering} → set.FinSet R → K → ℕ → Type 0
IsFullSet s x most = (set.contains s x ≡ false) × (most ≤ set.len s)

-- x is in the set, or one more may be
abbrev pub SetHasRoom : {K : Type 0} {R : K → K → Ordering} → set.FinSet R → K → ℕ → Type 0
SetHasRoom s x most = (set.contains s x ≡ true) ⊎ (set.len s < most)
