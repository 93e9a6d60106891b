use Rattle.std.proofs.Common.{ℕ, List, MatchOption, subst}
use Rattle.fab_inventory.specs.Inventories.{IsArray}
use Rattle.fab_inventory.proofs.fab_names.OrderLaws.{name_total}
use Rattle.fab_mapping_base.proofs.Lacking.{Lacking, lacking_one}
use Rattle.fab_mapping_base.proofs.gone.gone_array.Goals as goal

pub returns : goal.returns
returns g c =
    let Good = IsArray c.args.inventory.now.holders in
    lacking_one name_total Good c.args.group.now.array c.unless_array.result (subst (λ (a : List ℕ). MatchOption c.unless_array.result (Good a) (Lacking Good a)) c.array.ensures c.unless_array.ensures)
