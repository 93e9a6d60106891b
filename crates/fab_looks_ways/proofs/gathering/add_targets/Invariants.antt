use Rattle.std.proofs.Common.{◌≡◌, ℕ, List, ◌++◌}
use Rattle.std.specs.FinSet as set
use Rattle.fab_reach_base.specs.Adding.{Adds}
use Rattle.fab_reach_base.proofs.Adding.{Before}
use Rattle.fab_world.specs.Worlds.{records_of}
use Rattle.fab_looks_ways.specs.Inner.Gathering.{TargetEnds}
use Rattle.fab_looks_ways.specs.Pairs.{HasEnds}
use Rattle.fab_looks_ways.proofs.gathering.add_targets.Given as goal

abbrev pub invariant-loop-target : goal.invariant-loop-target
invariant-loop-target g l =
    (listed : List ℕ) × (set.from_list listed ≡ l.group.targets) × (before : List ℕ) × (listed ≡ before ++ l.target-iterator) × Adds (Before (TargetEnds (records_of l.world) l.ports) before) (HasEnds l.fn.ends) (HasEnds l.ends)
