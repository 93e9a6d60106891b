use Rattle.std.proofs.Common.{sym, ◌∙◌}
use Rattle.fab_zoning.proofs.SeenItems.{takes_seen, some_down, some_up}
use Rattle.fab_zoning.proofs.items.take_item.Goals as goal

pub returns-clause-takes : goal.returns-clause-takes
returns-clause-takes g c =
    takes_seen g.met.X.Ord.total c.args.sets.now c.drop_empty.new.sets (c.args.name.now, c.args.item.now)
    (λ d. (λ h. (c.take_from.ensures.takes d).0 (sym (c.drop_empty.ensures.same d.0 d.1) ∙ h), λ h. c.drop_empty.ensures.same d.0 d.1 ∙ (c.take_from.ensures.takes d).1 h))

pub returns-clause-some : goal.returns-clause-some
returns-clause-some g c h =
    some_up g.met.X.Ord.total c.drop_empty.new.sets (c.drop_empty.ensures.some (λ q s apart at. some_down g.met.X.Ord.total c.args.sets.now h q s (sym (c.take_from.ensures.rest q apart) ∙ at)))
