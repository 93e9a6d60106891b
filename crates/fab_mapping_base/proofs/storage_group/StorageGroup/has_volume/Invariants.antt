use Rattle.std.proofs.Common.{◌≡◌, ℕ, List, ◌++◌}
use Rattle.std.specs.FinMap as map
use Rattle.std.specs.List.{AllByRecursion}
use Rattle.std.specs.List.Sorted.{IsStrictlySortedBy}
use Rattle.std.specs.Map.{keys_of}
use Rattle.std.specs.Ordering.{nat_cmp}
use Rattle.fab_mapping_base.proofs.storage_group.StorageGroup.has_volume.Given as goal

abbrev pub invariant-loop-unit : goal.invariant-loop-unit
invariant-loop-unit g l =
    (listed : List (ℕ × List ℕ)) × (map.from_entries listed ≡ l.self.units) × IsStrictlySortedBy nat_cmp (keys_of listed) × (before : List (ℕ × List ℕ)) × (listed ≡ before ++ l._unit-iterator) × AllByRecursion (λ (e : ℕ × List ℕ). ¬ (e.1 ≡ l.volume)) before
