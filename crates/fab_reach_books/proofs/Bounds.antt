-- The bounds of a count follow from the pairs that are asked about.
use Rattle.std.proofs.Common.{ℕ, ◌≤◌, ◌<◌, ◌+◌, List, length, arith}
use Rattle.fab_reach_base.specs.Records.{Records}
use Rattle.fab_reach_books.specs.Affected.{Affected, PathsDiffer}
use Rattle.fab_reach_books.specs.Pairs.{Pair, AreChanged}
use Rattle.fab_reach_books.specs.Counts.{most_asked, AreSome, AreAll, IsBounded}
use Rattle.fab_reach_books.specs.CountLaws.{no_more}

module _ (w v : Records) (pairs : List Pair) (changed : AreChanged w v pairs) where
  -- no more than the affected ones
  few : (all : List Pair) → AreAll (Affected w v) all → length pairs ≤ length all
  few all are = no_more pairs all changed.once (λ x h. are x.0 x.1 (changed.within x.0 x.1 h))

  -- no fewer than those whose paths differ
  many : (some : List Pair) → AreSome (PathsDiffer w v) some → length some ≤ length pairs
  many some are = no_more some pairs are.once (λ x h. changed.all x.0 x.1 (are.sound x.0 x.1 h))

  pub bounded : (s t : ℕ) → t ≤ s + length pairs → (t < most_asked → s + length pairs ≤ t) → IsBounded w v s t
  bounded s t most least = record {
    most = λ all are. omega (arith, most, few all are);
    least = λ below some are. omega (arith, least below, many some are);
  }
