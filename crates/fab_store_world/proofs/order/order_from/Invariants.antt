use Rattle.std.proofs.Common.{◌≡◌, ℕ, List, ◌++◌}
use Rattle.fab_store_world.specs.Orders.{numbered}
use Rattle.fab_store_world.proofs.order.order_from.Given as goal

abbrev pub invariant-loop-place : goal.invariant-loop-place
invariant-loop-place g l = (before : List (ℕ × List ℕ)) × (l.places.keys ≡ before ++ l.place-iterator) × (before ≡ numbered 1 l.order.items)
