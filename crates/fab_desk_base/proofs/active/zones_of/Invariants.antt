use Rattle.std.proofs.Common.{◌≡◌, List, ◌++◌}
use Rattle.fab_reach_base.specs.fab_zoning_rows.Rows.{Row}
use Rattle.fab_desk_base.specs.Grouping.{IsGrouped}
use Rattle.fab_desk_base.proofs.active.zones_of.Given as goal

abbrev pub invariant-loop-zone : goal.invariant-loop-zone
invariant-loop-zone g l = (before : List Row) × (l.rows.keys ≡ before ++ l.zone-iterator) × IsGrouped before l.zones.items
