use Rattle.std.proofs.Common.{◌≡◌, ℕ, List, ◌++◌}
use Rattle.std.specs.FinSet as set
use Rattle.fab_reach_base.specs.Adding.{Adds}
use Rattle.fab_reach_base.proofs.Adding.{Before}
use Rattle.fab_reach_base.proofs.Gathering.{Is, HasPort}
use Rattle.fab_reach_base.proofs.listing.add_targets.Given as goal

abbrev pub invariant-loop-target : goal.invariant-loop-target
invariant-loop-target g l = (listed : List ℕ) × (set.from_list listed ≡ l.group.targets) × (before : List ℕ) × (listed ≡ before ++ l.target-iterator) × Adds (Before Is before) (HasPort l.fn.targets) (HasPort l.targets)
