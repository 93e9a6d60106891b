use Rattle.std.proofs.Common.{ℕ, ◌≡◌, ◌++◌, List}
use Rattle.fab_reach_base.specs.Adding.{Adds}
use Rattle.fab_reach_base.specs.Orders.{Has}
use Rattle.fab_reach_base.proofs.Adding.{Before}
use Rattle.fab_reach.specs.Inner.Owned.{IsFrom}
use Rattle.fab_reach.proofs.own_rows.add_own.Given as goal

abbrev pub invariant-loop-port : goal.invariant-loop-port
invariant-loop-port g l = (before : List ℕ) × (l.ports.keys ≡ before ++ l.port-iterator) × Adds (Before (IsFrom l.rows) before) (Has l.fn.own) (Has l.own)
