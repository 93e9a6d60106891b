use Rattle.std.proofs.Common.{◌≡◌, ℕ, List, ◌++◌}
use Rattle.std.specs.List.{AllByRecursion}
use Rattle.fab_mapping_base.specs.Groups.{HostGroupRows, HoldsHost}
use Rattle.fab_mapping.proofs.search.first_with_host.Given as goal

abbrev pub invariant-loop-name : goal.invariant-loop-name
invariant-loop-name g l = (before : List (List ℕ × HostGroupRows)) × (l.groups.entries ≡ before ++ l.name-iterator) × AllByRecursion (λ (e : List ℕ × HostGroupRows). ¬ HoldsHost l.host e.1) before
