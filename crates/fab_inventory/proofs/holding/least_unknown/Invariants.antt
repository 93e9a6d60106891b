use Rattle.std.proofs.Common.{take, ◌≡◌, None}
use Rattle.std.specs.Ordering.{nat_cmp}
use Rattle.std.specs.BTreeMap.{get}
use Rattle.fab_inventory.proofs.Leasts.{LeastSoFar}
use Rattle.fab_inventory.proofs.holding.least_unknown.Given as goal

abbrev pub invariant-loop-port : goal.invariant-loop-port
invariant-loop-port g l = LeastSoFar (λ q. get nat_cmp l.ports q ≡ None) (take l.port-index l.listed) l.least
