use Rattle.std.proofs.Common.{◌≡◌, ℕ, List, [], ◌++◌}
use Rattle.std.specs.FinMap as map
use Rattle.std.specs.BTreeMap.{BTreeMap}
use Rattle.std.specs.BTreeSet.{BTreeSet}
use Rattle.fab_zoning.specs.Edits.{IsIn}
use Rattle.fab_reach_base.specs.Adding.{Adds}
use Rattle.fab_reach_base.proofs.Adding.{Before}
use Rattle.std.specs.Ordering.{nat_cmp}
use Rattle.fab_inventory.specs.declared.port.Known.{Known}
use Rattle.fab_reach_base.specs.Views.{seen}
use Rattle.fab_reach_index.specs.Indexes.{Zone, zone_cmp}
use Rattle.fab_reach_index.proofs.ZonesPlaced.{ByEntry}
use Rattle.fab_reach_index.proofs.zoning_index.zones_of.Given as goal

abbrev pub invariant-loop-name : goal.invariant-loop-name
invariant-loop-name g l =
    (first : BTreeMap ℕ (BTreeSet Zone)) × (first.entries ≡ []) × (listed : List (ℕ × Known)) × (listed ≡ map.entries (seen l.view).inventory.ports) × (before : List (ℕ × Known)) × (listed ≡ before ++ l.name-iterator)
    × Adds (Before (ByEntry (seen l.view)) before) (IsIn nat_cmp zone_cmp first) (IsIn nat_cmp zone_cmp l.zones)
