-- Another value at a key: what the loops over rows are proved by.
use Rattle.std.specs.Prelude.{◌≡◌, ◌≢◌, Option, Some}

-- another value stands at the key
abbrev pub HasOther : {K X : Type 0} → (K → Option X) → K → X → Type 0
HasOther {K} {X} f k v = (w : X) × (f k ≡ Some w) × (w ≢ v)
