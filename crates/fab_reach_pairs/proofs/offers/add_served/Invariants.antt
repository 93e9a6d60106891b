use Rattle.std.proofs.Common.{◌≡◌, ℕ, List, ◌++◌}
use Rattle.std.specs.FinSet as set
use Rattle.fab_reach_base.specs.Adding.{Adds}
use Rattle.fab_reach_base.proofs.Adding.{Before}
use Rattle.fab_reach_books.specs.Inner.Sets.{HasPortIn}
use Rattle.fab_reach_pairs.proofs.OfferLoops.{ByHosts}
use Rattle.fab_reach_pairs.proofs.offers.add_served.Given as goal

abbrev pub invariant-loop-name : goal.invariant-loop-name
invariant-loop-name g l = (listed : List (List ℕ)) × (set.from_list listed ≡ l.group.host_groups) × (before : List (List ℕ)) × (listed ≡ before ++ l.name-iterator) × Adds (Before (ByHosts l.mapping l.held) before) (HasPortIn l.fn.ports) (HasPortIn l.ports)
