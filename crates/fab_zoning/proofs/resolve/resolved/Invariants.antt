use Rattle.std.proofs.Common.{◌≡◌, ◌≤◌, ℕ, List, ◌++◌}
use Rattle.std.specs.FinSet as set
use Rattle.fab_zoning_rows.specs.Limits.{most_rows}
use Rattle.fab_zoning.specs.Inner.Adding.{ZoneRow}
use Rattle.fab_zoning.proofs.Adding.{AddsRows}
use Rattle.fab_zoning.proofs.Adding.{Before}
use Rattle.fab_zoning.proofs.resolve.resolved.Given as goal

abbrev pub invariant-loop-zone : goal.invariant-loop-zone
invariant-loop-zone g l = (before : List (List ℕ)) × (l.zone_set.keys ≡ before ++ l.zone-iterator) × AddsRows (Before (ZoneRow l.aliases l.zones) before) set.empty l.rows × (set.len l.rows ≤ most_rows)
