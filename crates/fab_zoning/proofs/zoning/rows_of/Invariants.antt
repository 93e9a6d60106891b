use Rattle.std.proofs.Common.{◌≡◌, ◌≤◌, take}
use Rattle.std.specs.FinSet as set
use Rattle.fab_zoning.proofs.zoning.rows_of.Given as goal

abbrev pub invariant-loop-zone : goal.invariant-loop-zone
invariant-loop-zone g l = (l.rows ≡ set.from_list (take l.zone-index l.listed)) × (set.len l.rows ≤ l.zone-index)
