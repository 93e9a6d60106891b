use Rattle.std.proofs.Common.{◌≡◌, ℕ, List, ◌++◌}
use Rattle.fab_reach_base.specs.Adding.{Adds}
use Rattle.fab_reach_base.specs.Orders.{Has}
use Rattle.fab_reach_base.specs.Views.{seen}
use Rattle.fab_reach_base.specs.Reach.{PathOf}
use Rattle.fab_reach_base.proofs.Adding.{Before}
use Rattle.fab_reach_base.proofs.listing.add_port.Given as goal

abbrev pub invariant-loop-target : goal.invariant-loop-target
invariant-loop-target g l = (before : List ℕ) × (l.initial.target-iterator ≡ before ++ l.target-iterator) × Adds (Before (PathOf (seen l.view) l.p.name) before) (Has l.fn.paths) (Has l.paths)
