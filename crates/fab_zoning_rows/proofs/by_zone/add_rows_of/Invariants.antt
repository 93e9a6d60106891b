use Rattle.std.proofs.Common.{◌≡◌, ℕ, List, ◌++◌}
use Rattle.fab_zoning_rows.specs.Inner.ByZone.{AddsListed, rows_of_member}
use Rattle.fab_zoning_rows.proofs.by_zone.add_rows_of.Given as goal

abbrev pub invariant-loop-zone : goal.invariant-loop-zone
invariant-loop-zone g l = (before : List (List ℕ)) × (l.zones.keys ≡ before ++ l.zone-iterator) × AddsListed (rows_of_member l.member before) l.fn.rows l.rows
