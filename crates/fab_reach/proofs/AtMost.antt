-- How far a count may rise, also where a step is refused.
use Rattle.std.proofs.Common.{ℕ, ◌≤◌, ◌+◌, List, length, arith}
use Rattle.fab_reach_base.specs.Records.{Records}
use Rattle.fab_reach_books.specs.CountLaws.{no_more}
use Rattle.fab_reach_books.specs.Counts.{IsAtMost}
use Rattle.fab_reach_books.specs.Pairs.{Pair, AreChanged}

pub at_most : (w v : Records) (pairs : List Pair) → AreChanged w v pairs → (s t : ℕ) → t ≤ s + length pairs → IsAtMost w v s t
at_most w v pairs changed s t most all are = let few : length pairs ≤ length all = no_more pairs all changed.once (λ x h. are x.0 x.1 (changed.within x.0 x.1 h)) in omega (arith, most, few)

pub at_most_none : (w v : Records) (s : ℕ) → IsAtMost w v s s
at_most_none w v s all are = omega arith
