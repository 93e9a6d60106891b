use Rattle.std.proofs.Common.{◌≡◌, ◌≤◌, List, ◌++◌}
use Rattle.std.specs.FinSet as set
use Rattle.fab_zoning_rows.specs.Limits.{most_rows}
use Rattle.fab_names.specs.declared.member.Member.{Member}
use Rattle.fab_zoning.specs.Inner.Adding.{AliasRow}
use Rattle.fab_zoning.proofs.Adding.{AddsRows}
use Rattle.fab_zoning.proofs.Adding.{Before}
use Rattle.fab_zoning.proofs.resolve.add_aliased.Given as goal

abbrev pub invariant-loop-member : goal.invariant-loop-member
invariant-loop-member g l = (before : List Member) × (l.members.keys ≡ before ++ l.member-iterator) × AddsRows (Before (AliasRow l.aliases l.zone) before) l.fn.rows l.rows × (set.len l.rows ≤ most_rows)
