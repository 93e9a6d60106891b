use Rattle.std.proofs.Common.{◌≡◌, ℕ, List, ◌++◌}
use Rattle.std.specs.List.{AllByRecursion}
use Rattle.fab_inventory.specs.declared.holder.Volume.{Volume}
use Rattle.fab_inventory.proofs.holding.first_on.Given as goal

abbrev pub invariant-loop-name : goal.invariant-loop-name
invariant-loop-name g l = (before : List (List ℕ × Volume)) × (l.volumes.entries ≡ before ++ l.name-iterator) × AllByRecursion (λ e. ¬ (e.1.array ≡ l.array)) before
