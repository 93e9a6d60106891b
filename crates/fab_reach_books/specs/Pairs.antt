-- Pairs, and which of them a step looks at.
use Rattle.std.specs.Prelude.{ℕ, List, Contains}
use Rattle.std.specs.declared.cmp.Ordering.{Ordering}
use Rattle.std.specs.Ordering.{nat_cmp, then_cmp, on}
use Rattle.std.specs.List.Sorted.{IsStrictlySortedBy}
use Rattle.fab_reach_base.specs.Records.{Records}
use Rattle.fab_reach_books.specs.Affected.{Affected, PathsDiffer}

-- an initiator and a target
abbrev pub Pair : Type 0
Pair = ℕ × ℕ

abbrev pub pair_cmp : Pair → Pair → Ordering
pair_cmp = then_cmp (on (λ p. p.0) nat_cmp) (on (λ p. p.1) nat_cmp)

-- pairs that are affected, each once, and all whose paths differ among them
pub record AreChanged (w v : Records) (pairs : List Pair) : Type 0 where
  pub once : IsStrictlySortedBy pair_cmp pairs
  pub within : (p q : ℕ) → Contains pairs (p, q) → Affected w v p q
  pub all : (p q : ℕ) → PathsDiffer w v p q → Contains pairs (p, q)
