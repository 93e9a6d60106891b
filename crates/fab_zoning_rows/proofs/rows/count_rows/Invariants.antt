use Rattle.std.proofs.Common.{◌≡◌, ◌≤◌, ℕ, List, ◌++◌}
use Rattle.std.specs.BTreeSet.{BTreeSet}
use Rattle.std.specs.FinSet as set
use Rattle.fab_inventory.specs.fab_names.declared.member.Member.{Member}
use Rattle.fab_zoning_rows.specs.Limits.{most_rows}
use Rattle.fab_zoning_rows.specs.Views.{seen_rows}
use Rattle.fab_zoning_rows.proofs.rows.count_rows.Given as goal

abbrev pub invariant-loop-zones : goal.invariant-loop-zones
invariant-loop-zones g l = (before : List (Member × BTreeSet (List ℕ))) × (l.zones_by_member.entries ≡ before ++ l.zones-iterator) × (l.count ≡ set.len (seen_rows before)) × (l.count ≤ most_rows)
