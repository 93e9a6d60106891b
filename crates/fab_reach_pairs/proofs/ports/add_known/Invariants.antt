use Rattle.std.proofs.Common.{◌≡◌, ℕ, List, ◌++◌}
use Rattle.std.specs.FinMap as map
use Rattle.fab_inventory.specs.declared.port.Known.{Known}
use Rattle.fab_reach_base.specs.Adding.{Adds}
use Rattle.fab_reach_base.specs.Views.{seen}
use Rattle.fab_reach_base.proofs.Adding.{Before}
use Rattle.fab_reach_books.specs.Inner.Sets.{HasPortIn}
use Rattle.fab_reach_pairs.proofs.Owning.{ByKnown}
use Rattle.fab_reach_pairs.proofs.ports.add_known.Given as goal

abbrev pub invariant-loop-name : goal.invariant-loop-name
invariant-loop-name g l =
    (listed : List (ℕ × Known)) × (listed ≡ map.entries (seen l.view).inventory.ports) × (before : List (ℕ × Known)) × (listed ≡ before ++ l.name-iterator) × Adds (Before ByKnown before) (HasPortIn l.fn.ports) (HasPortIn l.ports)
