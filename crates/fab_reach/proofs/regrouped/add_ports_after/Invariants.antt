use Rattle.std.proofs.Common.{◌≡◌, ℕ, List, ◌++◌}
use Rattle.fab_reach_base.specs.Adding.{Adds}
use Rattle.fab_reach_base.proofs.Adding.{Before}
use Rattle.fab_reach_base.specs.Records.{Records}
use Rattle.fab_reach_moves.specs.Inner.Telling.{IsTold}
use Rattle.fab_reach_index.specs.Indexes.{IsHeldBy, IsIndexOf}
use Rattle.fab_reach_books.specs.Inner.Sets.{HasPortIn}
use Rattle.fab_reach.proofs.regrouped.add_ports_after.Given as goal

abbrev pub invariant-loop-host : goal.invariant-loop-host
invariant-loop-host g l = (before : List (List ℕ)) × (l.initial.host-iterator ≡ before ++ l.host-iterator) × ((w v : Records) → IsIndexOf w l.index → IsTold w v l.told → Adds (Before (λ h (p : ℕ). IsHeldBy v h p) before) (HasPortIn l.fn.ports) (HasPortIn l.ports))
