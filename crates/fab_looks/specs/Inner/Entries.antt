-- Entries by name that are gone through.
use Rattle.std.specs.Prelude.{ℕ, List, Contains, IsSome}
use Rattle.std.specs.FinMap as map
use Rattle.std.specs.Map.{keys_of}
use Rattle.fab_reach_base.specs.fab_names.Orders.{name_cmp}

-- the entries have each name of the map
abbrev pub HasKeys : {V X : Type 0} → List (List ℕ × V) → map.FinMap name_cmp X → Type 0
HasKeys es m = (n : List ℕ) → IsSome (map.get m n) → Contains (keys_of es) n
