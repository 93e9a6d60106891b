use Rattle.std.proofs.Common.{◌≡◌, ◌++◌, List}
use Rattle.fab_reach_base.specs.Adding.{Adds}
use Rattle.fab_reach_base.specs.Orders.{Has}
use Rattle.fab_reach_base.proofs.Adding.{Before}
use Rattle.fab_reach.specs.Inner.Owned.{IsFromAt}
use Rattle.fab_reach.proofs.own_rows.add_from.Given as goal

abbrev pub invariant-loop-pair : goal.invariant-loop-pair
invariant-loop-pair g l = (before : List (_ × _)) × (l.initial.pair-iterator ≡ before ++ l.pair-iterator) × Adds (Before (IsFromAt l.port) before) (Has l.fn.own) (Has l.own)
