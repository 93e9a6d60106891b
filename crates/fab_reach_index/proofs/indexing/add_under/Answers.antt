use Rattle.std.proofs.Common.{◌∷◌, [], ◌++◌, ◌∙◌, refl}
use Rattle.fab_lemmas.proofs.Walks.{walked, walk_end}
use Rattle.fab_zoning.specs.Edits.{IsIn}
use Rattle.fab_reach_base.proofs.Adding.{before_none, before_more}
use Rattle.fab_reach_index.proofs.Placed.{OfItem, under_keys}
use Rattle.fab_reach_index.proofs.indexing.add_under.Goals as goal

pub loop-key-init : goal.loop-key-init
loop-key-init g c = ([], refl, before_none (OfItem c.args.item) (IsIn g.Q.Ord.cmp g.X.Ord.cmp c.args.sets.now))

pub loop-key-preserved : goal.loop-key-preserved
loop-key-preserved g c =
    let i = c.loop-key.invariant in (
      i.0 ++ c.in-Some.key.now ∷ [],
      walked c.into_iter-key-iterator.result i.0 c.loop-key.key-iterator c.next.new.self c.in-Some.key.now i.1 c.in-Some.ensures.steps,
      before_more (OfItem c.args.item) i.0 c.in-Some.key.now (IsIn g.Q.Ord.cmp g.X.Ord.cmp c.args.sets.now) (IsIn g.Q.Ord.cmp g.X.Ord.cmp c.loop-key.sets) (IsIn g.Q.Ord.cmp g.X.Ord.cmp c.add_at.new.sets) i.2 c.in_ok-add_at.ensures,
    )

pub returns : goal.returns
returns g c =
    let i = c.loop-key.invariant in
    under_keys g.met.Q.Ord.total g.met.Q.Key.exact c.args.keys.now c.args.item i.0 (IsIn g.Q.Ord.cmp g.X.Ord.cmp c.args.sets.now) (IsIn g.Q.Ord.cmp g.X.Ord.cmp c.loop-key.sets)
    (walk_end c.into_iter-key-iterator.result i.0 c.loop-key.key-iterator i.1 c.in-None.ensures.steps.0 ∙ c.into_iter-key-iterator.ensures.into_iter_gives.0) i.2
