use Rattle.std.proofs.Common.{take, ℕ, List}
use Rattle.std.specs.Ordering.{nat_cmp}
use Rattle.std.specs.BTreeMap.{get}
use Rattle.fab_inventory.specs.Holders.{IsHeldByOther}
use Rattle.fab_inventory.proofs.Leasts.{LeastSoFar}
use Rattle.fab_inventory.proofs.holding.least_held.Given as goal

abbrev pub invariant-loop-port : goal.invariant-loop-port
invariant-loop-port g l = LeastSoFar (λ q. (h : List ℕ) × IsHeldByOther (get nat_cmp l.ports) l.name q h) (take l.port-index l.listed) l.least
