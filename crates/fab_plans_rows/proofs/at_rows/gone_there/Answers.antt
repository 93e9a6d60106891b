use Rattle.std.proofs.Common.{Some, None, sym, subst}
use Rattle.std.specs.FinMap as map
use Rattle.fab_lemmas.specs.Firsts.{IsFirstOf}
use Rattle.fab_mapping.specs.Gone.{IsFirstGone}
use Rattle.fab_mapping.specs.Mappings.{MappingRows}
use Rattle.fab_plans_rows.specs.Inner.Losses.{lost_cmp, RowLacks, Among}
use Rattle.fab_plans_rows.proofs.Losses.{none_gone, first_gone}
use Rattle.fab_plans_rows.proofs.at_rows.gone_there.Goals as goal

pub returns-in-Some : goal.returns-in-Some
returns-in-Some g c before go fits led =
    let first = subst (λ (m : MappingRows). IsFirstOf lost_cmp (Among (RowLacks c.args.inventory.now (map.get m.groups)) c.args.come.now) (Some c.in-Some.lost)) c.mapping.ensures c.in-Some.ensures in
    subst (IsFirstGone c.args.inventory.now c.args.config.now.mapping) (sym c.told.ensures) (first_gone c.args.inventory.now before c.args.config.now go c.args.come.now fits led c.in-Some.lost first)

pub returns-in-None : goal.returns-in-None
returns-in-None g c before go fits led =
    none_gone c.args.inventory.now before c.args.config.now go c.args.come.now fits led
    (subst (λ (m : MappingRows). IsFirstOf lost_cmp (Among (RowLacks c.args.inventory.now (map.get m.groups)) c.args.come.now) None) c.mapping.ensures c.in-None.ensures)
