-- The paths of some ports, from the paths of pairs. No public contract names anything of this file.
use Rattle.std.specs.Prelude.{ℕ, ◌≡◌, ◌<◌, List, ⊤}
use Rattle.std.specs.declared.ops.Bound.{Bound}
use Rattle.std.specs.Range.Bound.{MatchBound}
use Rattle.std.specs.BTreeMap.{BTreeMap}
use Rattle.std.specs.BTreeSet.{BTreeSet}
use Rattle.fab_zoning.specs.Edits.{IsIn}
use Rattle.fab_reach_base.specs.Orders.{Has, path_cmp}
use Rattle.fab_reach_base.specs.declared.path.Path.{Path}
use Rattle.fab_reach_books.specs.Inner.Sets.{HasPortIn}
use Rattle.fab_reach_books.specs.Pairs.{Pair, pair_cmp}
use Rattle.fab_reach_index.specs.Inner.Holding.{Held, HoldsIn}

-- the bound is before all pairs of the port
abbrev pub IsStartOf : ℕ → Bound Pair → Type 0
IsStartOf p b = MatchBound b (λ e. e.0 < p) (λ e. e.0 < p) ⊤

-- the bound is past all pairs of the port
abbrev pub IsEndOf : ℕ → Bound Pair → Type 0
IsEndOf p b = MatchBound b (λ e. p < e.0) (λ e. p < e.0) ⊤

-- the path is one of the pair, whose initiator is the port
abbrev pub IsFromAt : ℕ → Pair × BTreeSet Path → Path → Type 0
IsFromAt p e x = (e.0.0 ≡ p) × Has e.1 x

-- the path is one of a pair whose initiator is the port
abbrev pub IsFrom : BTreeMap Pair (BTreeSet Path) → ℕ → Path → Type 0
IsFrom rows p x = (q : ℕ) × IsIn pair_cmp path_cmp rows ((p, q), x)

-- the path is one of a pair whose initiator is one of the ports
abbrev pub IsOwned : BTreeSet ℕ → BTreeMap Pair (BTreeSet Path) → Path → Type 0
IsOwned ports rows x = (e : Pair) × HasPortIn ports e.0 × IsIn pair_cmp path_cmp rows (e, x)

-- the path is one of a pair whose initiator the holder holds
abbrev pub IsOwnedBy : Held → BTreeMap Pair (BTreeSet Path) → List ℕ → Path → Type 0
IsOwnedBy held rows h x = (e : Pair) × HoldsIn held h e.0 × IsIn pair_cmp path_cmp rows (e, x)
