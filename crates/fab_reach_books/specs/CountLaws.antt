-- What is true of counts: laws of the trait of books, as one body has them.
use Rattle.std.proofs.Common.{ℕ, ◌≤◌, ◌<◌, List, [], length, Contains, inl, inr, arith}
use Rattle.std.specs.Cmp.{eq_by_cmp_equiv}
use Rattle.std.specs.List.Sorted.{IsStrictlySortedBy}
use Rattle.std.proofs.lemmas.Map.Keys.{IsDistinct-from_sorted}
use Rattle.std.proofs.lemmas.Map.Made.{is_member-Decides, length-le_from_is_member}
use Rattle.fab_lemmas.proofs.SeenSets.{tie_decides}
use Rattle.fab_reach_base.specs.Records.{Records}
use Rattle.fab_reach_books.specs.Affected.{PathsDiffer}
use Rattle.fab_reach_books.specs.Counts.{most_asked, AreSome, IsBounded, IsMetered}
use Rattle.fab_reach_books.specs.KeyLaws.{pair_exact, pair_total}
use Rattle.fab_reach_books.specs.Pairs.{Pair, pair_cmp}

-- pairs, each once, that are all among others are no more than these
pub no_more : (xs ys : List Pair) → IsStrictlySortedBy pair_cmp xs → ((x : Pair) → Contains xs x → Contains ys x) → length xs ≤ length ys
no_more xs ys once among =
    length-le_from_is_member (eq_by_cmp_equiv pair_total) xs ys (IsDistinct-from_sorted pair_cmp xs once)
    (λ x member. (is_member-Decides (tie_decides pair_total pair_exact) ys x).1 (among x ((is_member-Decides (tie_decides pair_total pair_exact) xs x).0 member)))

-- a sight of which nothing was asked before
pub metered : (w v : Records) (t m n : ℕ) → IsMetered w v 0 t m n → IsBounded w v m n
metered w v t m n k = record {
  most = λ all are. let a = k.bounded.most all are in let s = k.summed in omega (arith, a, s);
  least = λ below some are. let f = k.few in let lt : t < most_asked = omega (arith, f) in let a = k.bounded.least lt some are in let s = k.summed in omega (arith, a, s, below);
}

-- no pair's paths differ from themselves
no_pairs : (w : Records) (some : List Pair) → AreSome (PathsDiffer w w) some → length some ≤ 0
no_pairs w some are = no_more some [] are.once (λ x h. let d = are.sound x.0 x.1 h in absurd (elim d.1 [ inl l ↦ l.1 l.0 | inr l ↦ l.1 l.0 ]))

pub still : (w : Records) (n : ℕ) → IsBounded w w n n
still w n = record { most = λ all are. omega arith; least = λ below some are. omega (arith, no_pairs w some are) }
