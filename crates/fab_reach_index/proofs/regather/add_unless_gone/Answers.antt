use Rattle.std.proofs.Common.{sym, ◌∙◌}
use Rattle.std.specs.Option.{option_copied}
use Rattle.fab_lemmas.specs.MapsOfSets.{in_tree}
use Rattle.fab_reach_base.proofs.Sets.{adds_insert}
use Rattle.fab_reach_index.specs.Inner.Regathering.{HasIn}
use Rattle.fab_reach_index.proofs.Regathering.{item_left, item_gone}
use Rattle.fab_reach_index.proofs.regather.add_unless_gone.Goals as goal

pub returns-in_ok-insert : goal.returns-in_ok-insert
returns-in_ok-insert g c = item_left g.K.Ord.cmp (λ x. in_tree g.K.Ord.cmp (option_copied c.args.gone) x) c.args.item.now (HasIn g.K.Ord.cmp c.args.items.now) (HasIn g.K.Ord.cmp c.insert.new.self) (sym c.is_among.ensures ∙ c.if-not-is_among.true)
    (adds_insert g.met.K.Ord.total g.met.K.Key.exact c.args.items.now c.insert.new.self c.args.item.now c.in_ok-insert.ensures.updates.0)

pub returns-else-not-is_among : goal.returns-else-not-is_among
returns-else-not-is_among g c = item_gone g.K.Ord.cmp (λ x. in_tree g.K.Ord.cmp (option_copied c.args.gone) x) c.args.item.now (HasIn g.K.Ord.cmp c.args.items.now) (sym c.is_among.ensures ∙ c.if-not-is_among.false)
