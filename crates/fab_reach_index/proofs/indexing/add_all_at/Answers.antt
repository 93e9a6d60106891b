use Rattle.std.proofs.Common.{◌∷◌, [], ◌++◌, ◌∙◌, refl}
use Rattle.fab_lemmas.proofs.Walks.{walked, walk_end}
use Rattle.fab_zoning.specs.Edits.{IsIn}
use Rattle.fab_reach_base.proofs.Adding.{before_none, before_more}
use Rattle.fab_reach_index.proofs.Placed.{AtKey, at_key}
use Rattle.fab_reach_index.proofs.indexing.add_all_at.Goals as goal

pub loop-item-init : goal.loop-item-init
loop-item-init g c = ([], refl, before_none (AtKey c.args.key) (IsIn g.Q.Ord.cmp g.X.Ord.cmp c.args.sets.now))

pub loop-item-preserved : goal.loop-item-preserved
loop-item-preserved g c =
    let i = c.loop-item.invariant in (
      i.0 ++ c.in-Some.item.now ∷ [],
      walked c.into_iter-item-iterator.result i.0 c.loop-item.item-iterator c.next.new.self c.in-Some.item.now i.1 c.in-Some.ensures.steps,
      before_more (AtKey c.args.key) i.0 c.in-Some.item.now (IsIn g.Q.Ord.cmp g.X.Ord.cmp c.args.sets.now) (IsIn g.Q.Ord.cmp g.X.Ord.cmp c.loop-item.sets) (IsIn g.Q.Ord.cmp g.X.Ord.cmp c.add_at.new.sets) i.2 c.in_ok-add_at.ensures,
    )

pub returns : goal.returns
returns g c =
    let i = c.loop-item.invariant in
    at_key g.met.X.Ord.total g.met.X.Key.exact c.args.items.now c.args.key i.0 (IsIn g.Q.Ord.cmp g.X.Ord.cmp c.args.sets.now) (IsIn g.Q.Ord.cmp g.X.Ord.cmp c.loop-item.sets)
    (walk_end c.into_iter-item-iterator.result i.0 c.loop-item.item-iterator i.1 c.in-None.ensures.steps.0 ∙ c.into_iter-item-iterator.ensures.into_iter_gives.0) i.2
