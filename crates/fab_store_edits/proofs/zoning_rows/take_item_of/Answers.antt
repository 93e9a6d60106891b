use Rattle.fab_store_edits.proofs.ItemMoves.{take_alias, take_zone, take_set, some_aliases, some_zones, some_sets}
use Rattle.fab_store_edits.proofs.zoning_rows.take_item_of.Goals as goal

pub returns-in-Alias-clause-taken : goal.returns-in-Alias-clause-taken
returns-in-Alias-clause-taken g c = rw c.in-Alias.is (take_alias c.args.zoning.now c.take_from_alias.new.self c.in-Alias.name c.in-Alias.member c.take_from_alias.ensures.rest c.take_from_alias.ensures.takes)

pub returns-in-Alias-clause-some : goal.returns-in-Alias-clause-some
returns-in-Alias-clause-some g c = some_aliases c.args.zoning.now c.take_from_alias.new.self c.take_from_alias.ensures.rest c.take_from_alias.ensures.some

pub returns-in-Zone-clause-taken : goal.returns-in-Zone-clause-taken
returns-in-Zone-clause-taken g c = rw c.in-Zone.is (take_zone c.args.zoning.now c.take_from_zone.new.self c.in-Zone.name c.in-Zone.member c.take_from_zone.ensures.rest c.take_from_zone.ensures.takes)

pub returns-in-Zone-clause-some : goal.returns-in-Zone-clause-some
returns-in-Zone-clause-some g c = some_zones c.args.zoning.now c.take_from_zone.new.self c.take_from_zone.ensures.rest c.take_from_zone.ensures.some

pub returns-in-Set-clause-taken : goal.returns-in-Set-clause-taken
returns-in-Set-clause-taken g c = rw c.in-Set.is (take_set c.args.zoning.now c.take_from_set.new.self c.in-Set.name c.in-Set.zone c.take_from_set.ensures.rest c.take_from_set.ensures.takes)

pub returns-in-Set-clause-some : goal.returns-in-Set-clause-some
returns-in-Set-clause-some g c = some_sets c.args.zoning.now c.take_from_set.new.self c.take_from_set.ensures.rest c.take_from_set.ensures.some
