use Rattle.std.proofs.Common.{◌≡◌, ℕ, List, ◌++◌}
use Rattle.fab_reach_base.specs.Adding.{Adds}
use Rattle.fab_reach_base.specs.Orders.{Has}
use Rattle.fab_reach_base.specs.Views.{seen}
use Rattle.fab_reach_base.specs.Gathering.{GroupPath}
use Rattle.fab_reach_base.proofs.Adding.{Before}
use Rattle.fab_reach_base.proofs.listing.add_pair_of.Given as goal

abbrev pub invariant-loop-name : goal.invariant-loop-name
invariant-loop-name g l = (before : List (List ℕ)) × (l.initial.name-iterator ≡ before ++ l.name-iterator) × Adds (Before (GroupPath (seen l.view).config.mapping l.fabric l.p.name l.q.name) before) (Has l.fn.paths) (Has l.paths)
