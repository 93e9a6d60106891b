use Rattle.std.proofs.Common.{take}
use Rattle.fab_reach_base.specs.Adding.{Adds}
use Rattle.fab_reach_base.proofs.Adding.{Before}
use Rattle.fab_store_world.specs.Orders.{IsAt, HasPlace}
use Rattle.fab_store_world.proofs.order.places_of.Given as goal

abbrev pub invariant-loop-row : goal.invariant-loop-row
invariant-loop-row g l = Adds (Before IsAt (take l.row-index l.rows)) (HasPlace l.initial.places) (HasPlace l.places)
