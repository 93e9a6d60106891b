use Rattle.std.proofs.Common.{Contains}
use Rattle.fab_reach_base.specs.Adding.{AddsOnly}
use Rattle.fab_reach_base.specs.Orders.{Has}
use Rattle.fab_reach_books.proofs.limited.show.Given as goal

abbrev pub invariant-loop-path : goal.invariant-loop-path
invariant-loop-path g l = AddsOnly (Contains l.paths) (Has l.fn.shown) (Has l.shown)
