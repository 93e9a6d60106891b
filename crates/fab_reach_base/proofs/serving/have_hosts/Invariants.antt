use Rattle.std.proofs.Common.{◌≡◌, ℕ, List, ◌++◌}
use Rattle.std.specs.FinMap as map
use Rattle.fab_mapping.specs.fab_mapping_base.Groups.{HostGroupRows}
use Rattle.fab_mapping.specs.fab_mapping_base.Fitting.{HasHosts}
use Rattle.fab_reach_base.proofs.Scanning.{AllSoFar}
use Rattle.fab_reach_base.proofs.serving.have_hosts.Given as goal

abbrev pub invariant-loop-name : goal.invariant-loop-name
invariant-loop-name g l =
    (listed : List (List ℕ × HostGroupRows)) × (listed ≡ map.entries l.mapping.host_groups) × (before : List (List ℕ × HostGroupRows)) × (listed ≡ before ++ l._name-iterator)
    × AllSoFar (λ (e : List ℕ × HostGroupRows). HasHosts l.inventory e.1) before
