use Rattle.std.proofs.Common.{◌≡◌, ℕ, List, [], ◌++◌}
use Rattle.std.specs.FinMap as map
use Rattle.fab_inventory.specs.declared.port.Known.{Known}
use Rattle.fab_reach_base.specs.Adding.{Adds}
use Rattle.fab_reach_base.specs.Views.{seen}
use Rattle.fab_reach_base.proofs.Adding.{Before}
use Rattle.fab_looks.specs.Inner.Serving.{PortIndex, ListsPort}
use Rattle.fab_looks.proofs.Services.{ByPort}
use Rattle.fab_looks.proofs.holding.logins_of.Given as goal

abbrev pub invariant-loop-name : goal.invariant-loop-name
invariant-loop-name g l =
    (first : PortIndex) × (first.entries ≡ []) × (listed : List (ℕ × Known)) × (listed ≡ map.entries (seen l.view).inventory.ports) × (before : List (ℕ × Known)) × (listed ≡ before ++ l.name-iterator)
    × Adds (Before (ByPort (seen l.view) l.served) before) (ListsPort first) (ListsPort l.logins)
