use Rattle.std.proofs.Common.{◌∷◌, [], ◌++◌, refl, sym, ◌∙◌, subst}
use Rattle.fab_lemmas.proofs.Walks.{walked, walk_end}
use Rattle.fab_reach_base.specs.Adding.{Adds}
use Rattle.fab_reach_base.specs.Orders.{Has}
use Rattle.fab_reach_base.specs.Records.{Records}
use Rattle.fab_reach_base.proofs.Adding.{before_none, before_more}
use Rattle.fab_reach_pairs.specs.Owning.{IsToAny}
use Rattle.fab_reach_pairs.proofs.Asked.{of_any}
use Rattle.fab_reach_pairs.proofs.asking.add_all.Goals as goal

pub loop-p-init : goal.loop-p-init
loop-p-init g c = (refl, [], sym c.into_iter-p-iterator.ensures.into_iter_gives.0, before_none (IsToAny (g.S.Sight.world c.args.sight.now) c.args.ports.now) (Has c.args.paths.now))

pub loop-p-preserved : goal.loop-p-preserved
loop-p-preserved g c =
    let i = c.loop-p.invariant in (
      c.add_from.ensures.same ∙ i.0,
      i.1 ++ c.in-Some.p.now ∷ [],
      walked c.args.ports.now.keys i.1 c.loop-p.p-iterator c.next.new.self c.in-Some.p.now i.2 c.in-Some.ensures.steps,
      before_more (IsToAny (g.S.Sight.world c.args.sight.now) c.args.ports.now) i.1 c.in-Some.p.now (Has c.args.paths.now) (Has c.loop-p.paths) (Has c.add_from.new.paths) i.3
          (subst (λ (w : Records). Adds (IsToAny w c.args.ports.now c.in-Some.p.now) (Has c.loop-p.paths) (Has c.add_from.new.paths)) i.0 c.in_ok-add_from.ensures.paths),
    )

pub returns-clause-paths : goal.returns-clause-paths
returns-clause-paths g c =
    let i = c.loop-p.invariant in
    of_any (g.S.Sight.world c.args.sight.now) c.args.ports.now i.1 (Has c.args.paths.now) (Has c.loop-p.paths) (walk_end c.args.ports.now.keys i.1 c.loop-p.p-iterator i.2 c.in-None.ensures.steps.0) i.3
