use Rattle.std.proofs.Common.{take, All}
use Rattle.std.specs.FinMap as map
use Rattle.fab_names.specs.Orders.{name_cmp, member_cmp}
use Rattle.fab_zoning_rows.specs.fab_lemmas.MapsOfSets.{seen_sets}
use Rattle.fab_zoning.specs.Steps.{NamesKnown}
use Rattle.fab_zoning.proofs.named.first_unknown_alias.Given as goal

abbrev pub invariant-loop-member : goal.invariant-loop-member
invariant-loop-member g l = All (NamesKnown (map.contains_key (seen_sets name_cmp member_cmp l.aliases.entries))) (take l.member-index l.members)
