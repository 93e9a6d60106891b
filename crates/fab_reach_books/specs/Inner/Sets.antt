-- What sets of ports, of names and of pairs have. No public contract names anything of this file.
use Rattle.std.specs.Prelude.{ℕ, List, IsTrue}
use Rattle.std.specs.BTreeSet.{BTreeSet, contains}
use Rattle.std.specs.Ordering.{nat_cmp}
use Rattle.fab_names.specs.Orders.{name_cmp}
use Rattle.fab_reach_books.specs.Pairs.{Pair, pair_cmp}

-- the set has the port
abbrev pub HasPortIn : BTreeSet ℕ → ℕ → Type 0
HasPortIn s p = IsTrue (contains nat_cmp s p)

-- the set has the name
abbrev pub HasName : BTreeSet (List ℕ) → List ℕ → Type 0
HasName s n = IsTrue (contains name_cmp s n)

-- the set has the pair
abbrev pub HasPairIn : BTreeSet Pair → Pair → Type 0
HasPairIn s e = IsTrue (contains pair_cmp s e)
