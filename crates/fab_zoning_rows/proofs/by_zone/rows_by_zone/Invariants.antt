use Rattle.std.proofs.Common.{◌≡◌, ℕ, List, ◌++◌}
use Rattle.std.specs.BTreeSet.{BTreeSet}
use Rattle.fab_inventory.specs.fab_names.declared.member.Member.{Member}
use Rattle.fab_zoning_rows.proofs.Listing.{HasListed}
use Rattle.fab_zoning_rows.proofs.by_zone.rows_by_zone.Given as goal

abbrev pub invariant-loop-member : goal.invariant-loop-member
invariant-loop-member g l = (before : List (Member × BTreeSet (List ℕ))) × (l.zones_by_member.entries ≡ before ++ l.member-iterator) × HasListed before l.rows
