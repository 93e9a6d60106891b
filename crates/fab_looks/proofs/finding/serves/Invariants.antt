use Rattle.std.proofs.Common.{◌≡◌, ℕ, List, ◌++◌}
use Rattle.std.specs.FinSet as set
use Rattle.fab_reach_base.proofs.Scanning.{AllSoFar}
use Rattle.fab_reach_base.specs.Gathering.{ServesBy}
use Rattle.fab_looks.proofs.finding.serves.Given as goal

abbrev pub invariant-loop-hosts : goal.invariant-loop-hosts
invariant-loop-hosts g l = (listed : List (List ℕ)) × (set.from_list listed ≡ l.group.host_groups) × (before : List (List ℕ)) × (listed ≡ before ++ l.hosts-iterator) × AllSoFar (λ k. ¬ ServesBy l.mapping k l.host) before
