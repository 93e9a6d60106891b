use Rattle.std.proofs.Common.{◌≡◌, [], take, map}
use Rattle.std.specs.BTreeSet.{BTreeSet}
use Rattle.fab_reach_base.specs.Adding.{Adds}
use Rattle.fab_reach_base.specs.Orders.{Has}
use Rattle.fab_reach_base.specs.Views.{seen}
use Rattle.fab_reach_base.specs.declared.path.Path.{Path}
use Rattle.fab_reach_base.proofs.Adding.{Before}
use Rattle.fab_looks.specs.Inner.Offers.{GroupPath}
use Rattle.fab_looks.proofs.Gains.{now}
use Rattle.fab_looks.proofs.offering.offers.Given as goal

abbrev pub invariant-loop-group : goal.invariant-loop-group
invariant-loop-group g l = (first : BTreeSet Path) × (first.keys ≡ []) × Adds (Before (GroupPath (seen l.view) l.ports l.volume) (take l.group-index (map now l.groups))) (Has first) (Has l.paths)
