use Rattle.std.proofs.Common.{◌≡◌, ◌∷◌, [], ◌++◌, ◌∙◌}
use Rattle.fab_lemmas.proofs.Walks.{walked, walk_end}
use Rattle.fab_reach_base.proofs.Adding.{before_more}
use Rattle.fab_reach_books.specs.Inner.Sets.{HasPairIn}
use Rattle.fab_reach_books.specs.Pairs.{Pair}
use Rattle.fab_reach_pairs.specs.Inner.Offering.{IsPortServedAt}
use Rattle.fab_reach_pairs.proofs.OfferLoops.{offered_to_all}
use Rattle.fab_reach_pairs.proofs.offers.add_offered_to_all.Goals as goal

pub loop-target-preserved : goal.loop-target-preserved
loop-target-preserved g c =
    let i = c.loop-target.invariant in (
      i.0 ++ c.in-Some.target.now ∷ [],
      walked c.into_iter-target-iterator.result i.0 c.loop-target.target-iterator c.next.new.self c.in-Some.target.now i.1 c.in-Some.ensures.steps,
      before_more (λ q (e : Pair). IsPortServedAt c.args.mapping.now c.args.index.now.held c.args.index.now.targeted q e.0 × (e.1 ≡ q)) i.0 c.in-Some.target.now (HasPairIn c.args.pairs.now) (HasPairIn c.loop-target.pairs) (HasPairIn c.add_offered_to.new.pairs) i.2
          (c.in_ok-add_offered_to.ensures),
    )

pub returns : goal.returns
returns g c =
    let i = c.loop-target.invariant in
    offered_to_all c.args.mapping.now c.args.index.now.held c.args.index.now.targeted c.args.targets.now i.0 (HasPairIn c.args.pairs.now) (HasPairIn c.loop-target.pairs) i.2
    (walk_end c.into_iter-target-iterator.result i.0 c.loop-target.target-iterator i.1 c.in-None.ensures.steps.0 ∙ c.into_iter-target-iterator.ensures.into_iter_gives.0)
