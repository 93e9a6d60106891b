use Rattle.std.proofs.Common.{◌≡◌, ℕ, List, ◌++◌}
use Rattle.std.specs.FinSet as set
use Rattle.fab_reach_base.specs.Adding.{Adds}
use Rattle.fab_reach_base.proofs.Adding.{Before}
use Rattle.fab_reach_books.specs.Inner.Sets.{HasPortIn}
use Rattle.fab_reach_index.specs.Inner.Holding.{HoldsIn}
use Rattle.fab_reach_pairs.proofs.offers.add_hosts.Given as goal

abbrev pub invariant-loop-host : goal.invariant-loop-host
invariant-loop-host g l = (listed : List (List ℕ)) × (set.from_list listed ≡ l.hosts.hosts) × (before : List (List ℕ)) × (listed ≡ before ++ l.host-iterator) × Adds (Before (HoldsIn l.held) before) (HasPortIn l.fn.ports) (HasPortIn l.ports)
