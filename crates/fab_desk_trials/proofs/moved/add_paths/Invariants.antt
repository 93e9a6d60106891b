use Rattle.std.proofs.Common.{take}
use Rattle.fab_reach_base.specs.Adding.{Adds}
use Rattle.fab_reach_base.specs.Views.{seen}
use Rattle.fab_desk_base.specs.Tenants.{Has}
use Rattle.fab_desk_trials.specs.Gathered.{IsOfSomePath}
use Rattle.fab_desk_trials.proofs.moved.add_paths.Given as goal

abbrev pub invariant-loop-path : goal.invariant-loop-path
invariant-loop-path g l = Adds (IsOfSomePath (seen l.view) (take l.path-index l.paths)) (Has l.fn.tenants) (Has l.tenants)
