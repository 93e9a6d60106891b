use Rattle.std.proofs.Common.{◌≡◌, ℕ, List, ◌++◌, false}
use Rattle.std.specs.Ordering.{nat_cmp}
use Rattle.std.specs.FinSet as set
use Rattle.std.specs.List.{AllByRecursion}
use Rattle.std.specs.List.Sorted.{IsStrictlySortedBy}
use Rattle.fab_mapping_base.proofs.clash.shared_target.Given as goal

abbrev pub invariant-loop-target : goal.invariant-loop-target
invariant-loop-target g l =
    (listed : List ℕ) × (set.from_list listed ≡ l.a.targets) × IsStrictlySortedBy nat_cmp listed × (before : List ℕ) × (listed ≡ before ++ l.target-iterator) × AllByRecursion (λ q. set.contains l.b.targets q ≡ false) before
