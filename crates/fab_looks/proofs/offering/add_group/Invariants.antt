use Rattle.std.proofs.Common.{◌≡◌, ℕ, List, ◌++◌}
use Rattle.std.specs.FinSet as set
use Rattle.fab_reach_base.specs.Adding.{Adds}
use Rattle.fab_reach_base.specs.Orders.{Has}
use Rattle.fab_reach_base.specs.Views.{seen}
use Rattle.fab_reach_base.proofs.Adding.{Before}
use Rattle.fab_looks.specs.Inner.Offers.{NamedPath}
use Rattle.fab_looks.proofs.offering.add_group.Given as goal

abbrev pub invariant-loop-target : goal.invariant-loop-target
invariant-loop-target g l =
    (listed : List ℕ) × (set.from_list listed ≡ l.group.targets) × (before : List ℕ) × (listed ≡ before ++ l.target-iterator) × Adds (Before (NamedPath (seen l.view) l.ports l.group l.volume) before) (Has l.fn.paths) (Has l.paths)
