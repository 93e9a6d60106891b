use Rattle.std.proofs.Common.{◌≡◌, [], take}
use Rattle.std.specs.BTreeSet.{BTreeSet}
use Rattle.fab_reach_base.proofs.Adding.{Before}
use Rattle.fab_reach_base.specs.Adding.{Adds}
use Rattle.fab_reach_base.specs.Orders.{Has}
use Rattle.fab_reach_base.specs.declared.path.Path.{Path}
use Rattle.fab_store_tables.specs.Paths.{ShowsPathOf}
use Rattle.fab_store_tables.proofs.paths.path_set.Given as goal

abbrev pub invariant-loop-line : goal.invariant-loop-line
invariant-loop-line g l = (first : BTreeSet Path) × (first.keys ≡ []) × Adds (Before ShowsPathOf (take l.line-index l.lines)) (Has first) (Has l.paths)
