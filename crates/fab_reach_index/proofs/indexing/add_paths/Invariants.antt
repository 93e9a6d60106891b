use Rattle.std.proofs.Common.{◌≡◌, List, ◌++◌}
use Rattle.fab_zoning.specs.Edits.{IsIn}
use Rattle.fab_reach_base.specs.Adding.{Adds}
use Rattle.fab_reach_base.proofs.Adding.{Before}
use Rattle.fab_reach_books.specs.Pairs.{Pair, pair_cmp}
use Rattle.fab_reach_base.specs.Orders.{path_cmp}
use Rattle.fab_reach_base.specs.declared.path.Path.{Path}
use Rattle.fab_reach_index.proofs.indexing.add_paths.Given as goal

abbrev pub invariant-loop-path : goal.invariant-loop-path
invariant-loop-path g l = (before : List Path) × (l.initial.path-iterator ≡ before ++ l.path-iterator) × Adds (Before (λ (x : Path) (e : Pair × Path). e ≡ ((x.initiator, x.target), x)) before) (IsIn pair_cmp path_cmp l.fn.rows) (IsIn pair_cmp path_cmp l.rows)
