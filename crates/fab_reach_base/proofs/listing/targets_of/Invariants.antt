use Rattle.std.proofs.Common.{◌≡◌, ℕ, List, [], ◌++◌}
use Rattle.std.specs.BTreeSet.{BTreeSet}
use Rattle.fab_reach_base.specs.Adding.{Adds}
use Rattle.fab_reach_base.specs.Gathering.{HasTarget}
use Rattle.fab_reach_base.proofs.Adding.{Before}
use Rattle.fab_reach_base.proofs.Gathering.{HasPort}
use Rattle.fab_reach_base.proofs.listing.targets_of.Given as goal

abbrev pub invariant-loop-name : goal.invariant-loop-name
invariant-loop-name g l = (first : BTreeSet ℕ) × (first.keys ≡ []) × (before : List (List ℕ)) × (l.groups.keys ≡ before ++ l.name-iterator) × Adds (Before (HasTarget l.mapping) before) (HasPort first) (HasPort l.targets)
