use Rattle.std.proofs.Common.{sym, subst}
use Rattle.fab_store_rows.specs.Tidy.{HasNoEmptySet}
use Rattle.fab_store_edits.proofs.Answering.{on_two, either_way}
use Rattle.fab_store_edits.proofs.ItemMoves.{put_alias, put_zone, put_set, some_aliases, some_zones, some_sets}
use Rattle.fab_store_edits.proofs.zoning_rows.put_item_in.Goals as goal

pub returns-in-Alias-clause-put : goal.returns-in-Alias-clause-put
returns-in-Alias-clause-put g c =
    rw c.in-Alias.is (on_two c.add_to_alias.result (put_alias c.args.zoning.now c.add_to_alias.new.self c.in-Alias.name c.in-Alias.member) c.add_to_alias.ensures.rest c.add_to_alias.ensures.puts)

pub returns-in-Alias-clause-some : goal.returns-in-Alias-clause-some
returns-in-Alias-clause-some g c =
    either_way c.add_to_alias.result (some_aliases c.args.zoning.now c.add_to_alias.new.self) (λ same h. subst HasNoEmptySet (sym same) h) c.add_to_alias.ensures.rest c.add_to_alias.ensures.some c.add_to_alias.ensures.err

pub returns-in-Zone-clause-put : goal.returns-in-Zone-clause-put
returns-in-Zone-clause-put g c =
    rw c.in-Zone.is (on_two c.add_to_zone.result (put_zone c.args.zoning.now c.add_to_zone.new.self c.in-Zone.name c.in-Zone.member) c.add_to_zone.ensures.rest c.add_to_zone.ensures.puts)

pub returns-in-Zone-clause-some : goal.returns-in-Zone-clause-some
returns-in-Zone-clause-some g c =
    either_way c.add_to_zone.result (some_zones c.args.zoning.now c.add_to_zone.new.self) (λ same h. subst HasNoEmptySet (sym same) h) c.add_to_zone.ensures.rest c.add_to_zone.ensures.some c.add_to_zone.ensures.err

pub returns-in-Set-clause-put : goal.returns-in-Set-clause-put
returns-in-Set-clause-put g c =
    rw c.in-Set.is (on_two c.add_to_set.result (put_set c.args.zoning.now c.add_to_set.new.self c.in-Set.name c.in-Set.zone) c.add_to_set.ensures.rest c.add_to_set.ensures.puts)

pub returns-in-Set-clause-some : goal.returns-in-Set-clause-some
returns-in-Set-clause-some g c =
    either_way c.add_to_set.result (some_sets c.args.zoning.now c.add_to_set.new.self) (λ same h. subst HasNoEmptySet (sym same) h) c.add_to_set.ensures.rest c.add_to_set.ensures.some c.add_to_set.ensures.err
