use Rattle.std.proofs.Common.{take}
use Rattle.fab_reach_base.specs.Adding.{Adds}
use Rattle.fab_reach_base.specs.Views.{seen}
use Rattle.fab_store_world.specs.PathGathering.{Has, IsRowOfSome}
use Rattle.fab_store_world.proofs.paths.add_path_rows.Given as goal

abbrev pub invariant-loop-path : goal.invariant-loop-path
invariant-loop-path g l = Adds (IsRowOfSome (seen l.view) (take l.path-index l.paths)) (Has l.fn.rows) (Has l.rows)
