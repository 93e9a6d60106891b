-- The list of all that have a property, in order.
use Rattle.std.specs.Prelude.{List, Contains}
use Rattle.std.specs.declared.cmp.Ordering.{Ordering}
use Rattle.std.specs.List.Sorted.{IsStrictlySortedBy}

-- all with P, each once, in the order, and nothing else
pub record IsListOf {X : Type 0} (R : X → X → Ordering) (P : X → Type 0) (xs : List X) : Type 0 where
  pub sorted : IsStrictlySortedBy R xs
  pub sound : (x : X) → Contains xs x → P x
  pub complete : (x : X) → P x → Contains xs x
