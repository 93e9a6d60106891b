use Rattle.std.proofs.Common.{◌≡◌, ℕ, List, ◌++◌}
use Rattle.std.specs.FinSet as set
use Rattle.fab_reach_base.specs.Serving.{IsArrayPort}
use Rattle.fab_reach_base.proofs.Scanning.{AllSoFar}
use Rattle.fab_reach_base.proofs.serving.are_targets.Given as goal

abbrev pub invariant-loop-target : goal.invariant-loop-target
invariant-loop-target g l = (listed : List ℕ) × (set.from_list listed ≡ l.group.targets) × (before : List ℕ) × (listed ≡ before ++ l.target-iterator) × AllSoFar (IsArrayPort l.inventory) before
