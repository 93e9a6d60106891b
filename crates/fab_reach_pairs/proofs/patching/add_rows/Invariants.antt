use Rattle.std.proofs.Common.{take}
use Rattle.fab_zoning.specs.Edits.{IsIn}
use Rattle.fab_reach_base.specs.Adding.{Adds}
use Rattle.fab_reach_base.specs.Orders.{path_cmp}
use Rattle.fab_reach_base.proofs.Adding.{Before}
use Rattle.fab_reach_books.specs.Pairs.{pair_cmp}
use Rattle.fab_reach_pairs.proofs.Going.{OfPath}
use Rattle.fab_reach_pairs.proofs.patching.add_rows.Given as goal

abbrev pub invariant-loop-path : goal.invariant-loop-path
invariant-loop-path g l = Adds (Before OfPath (take l.path-index l.paths)) (IsIn pair_cmp path_cmp l.fn.rows) (IsIn pair_cmp path_cmp l.rows)
