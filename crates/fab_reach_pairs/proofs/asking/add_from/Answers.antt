use Rattle.std.proofs.Common.{◌∷◌, [], ◌++◌, refl, sym, ◌∙◌, subst}
use Rattle.fab_lemmas.proofs.Walks.{walked, walk_end}
use Rattle.fab_reach_base.specs.Adding.{Adds}
use Rattle.fab_reach_base.specs.Orders.{Has}
use Rattle.fab_reach_base.specs.Records.{Records}
use Rattle.fab_reach_base.specs.Reach.{PathOf}
use Rattle.fab_reach_base.proofs.Adding.{before_none, before_more}
use Rattle.fab_reach_pairs.proofs.Asked.{to_any}
use Rattle.fab_reach_pairs.proofs.asking.add_from.Goals as goal

pub loop-q-init : goal.loop-q-init
loop-q-init g c = (refl, [], sym c.into_iter-q-iterator.ensures.into_iter_gives.0, before_none (PathOf (g.S.Sight.world c.args.sight.now) c.args.p.now) (Has c.args.paths.now))

pub loop-q-preserved : goal.loop-q-preserved
loop-q-preserved g c =
    let i = c.loop-q.invariant in (
      c.add_pair.ensures.same ∙ i.0,
      i.1 ++ c.in-Some.q.now ∷ [],
      walked c.args.ports.now.keys i.1 c.loop-q.q-iterator c.next.new.self c.in-Some.q.now i.2 c.in-Some.ensures.steps,
      before_more (PathOf (g.S.Sight.world c.args.sight.now) c.args.p.now) i.1 c.in-Some.q.now (Has c.args.paths.now) (Has c.loop-q.paths) (Has c.add_pair.new.paths) i.3
          (subst (λ (w : Records). Adds (PathOf w c.args.p.now c.in-Some.q.now) (Has c.loop-q.paths) (Has c.add_pair.new.paths)) i.0 c.in_ok-add_pair.ensures.paths),
    )

pub returns-clause-paths : goal.returns-clause-paths
returns-clause-paths g c =
    let i = c.loop-q.invariant in
    to_any (g.S.Sight.world c.args.sight.now) c.args.ports.now c.args.p.now i.1 (Has c.args.paths.now) (Has c.loop-q.paths) (walk_end c.args.ports.now.keys i.1 c.loop-q.q-iterator i.2 c.in-None.ensures.steps.0) i.3
