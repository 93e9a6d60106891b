use Rattle.std.proofs.Common.{◌∷◌, [], ◌++◌, ◌∙◌, refl}
use Rattle.std.specs.Option.{option_copied}
use Rattle.fab_lemmas.proofs.Walks.{walked, walk_end}
use Rattle.fab_lemmas.specs.MapsOfSets.{in_tree}
use Rattle.fab_reach_base.proofs.Adding.{before_none, before_more}
use Rattle.fab_reach_index.specs.Inner.Regathering.{HasIn}
use Rattle.fab_reach_index.proofs.Regathering.{IfLeft, items_left}
use Rattle.fab_reach_index.proofs.regather.add_left.Goals as goal

pub loop-item-init : goal.loop-item-init
loop-item-init g c = ([], refl, before_none (IfLeft g.K.Ord.cmp (λ x. in_tree g.K.Ord.cmp (option_copied c.args.gone) x)) (HasIn g.K.Ord.cmp c.args.items.now))

pub loop-item-preserved : goal.loop-item-preserved
loop-item-preserved g c =
    let i = c.loop-item.invariant in (
      i.0 ++ c.in-Some.item.now ∷ [],
      walked c.into_iter-item-iterator.result i.0 c.loop-item.item-iterator c.next.new.self c.in-Some.item.now i.1 c.in-Some.ensures.steps,
      before_more (IfLeft g.K.Ord.cmp (λ x. in_tree g.K.Ord.cmp (option_copied c.args.gone) x)) i.0 c.in-Some.item.now (HasIn g.K.Ord.cmp c.args.items.now) (HasIn g.K.Ord.cmp c.loop-item.items) (HasIn g.K.Ord.cmp c.add_unless_gone.new.items) i.2 c.in_ok-add_unless_gone.ensures,
    )

pub returns : goal.returns
returns g c =
    let i = c.loop-item.invariant in
    items_left g.K.Ord.cmp (λ x. in_tree g.K.Ord.cmp (option_copied c.args.gone) x) g.met.K.Ord.total g.met.K.Key.exact c.args.these.now i.0 (HasIn g.K.Ord.cmp c.args.items.now) (HasIn g.K.Ord.cmp c.loop-item.items)
    (walk_end c.into_iter-item-iterator.result i.0 c.loop-item.item-iterator i.1 c.in-None.ensures.steps.0 ∙ c.into_iter-item-iterator.ensures.into_iter_gives.0) i.2
