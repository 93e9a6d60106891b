use Rattle.std.proofs.Common.{◌≡◌, true, take, All}
use Rattle.std.specs.FinMap as map
use Rattle.fab_names.specs.Orders.{name_cmp}
use Rattle.fab_zoning_rows.specs.fab_lemmas.MapsOfSets.{seen_sets}
use Rattle.fab_zoning.proofs.named.first_unknown.Given as goal

abbrev pub invariant-loop-name : goal.invariant-loop-name
invariant-loop-name g l = All (λ name. map.contains_key (seen_sets name_cmp g.K.Ord.cmp l.sets.entries) name ≡ true) (take l.name-index l.names)
