use Rattle.std.proofs.Common.{◌≡◌, ◌∷◌, [], ◌++◌, ◌∙◌}
use Rattle.fab_lemmas.proofs.Walks.{walked, walk_end}
use Rattle.fab_reach_base.proofs.Adding.{before_more}
use Rattle.fab_reach_books.specs.Inner.Sets.{HasPairIn}
use Rattle.fab_reach_books.specs.Pairs.{Pair}
use Rattle.fab_reach_pairs.specs.Inner.Offering.{IsPortServedBy}
use Rattle.fab_reach_pairs.proofs.OfferLoops.{named}
use Rattle.fab_reach_pairs.proofs.offers.add_served_by_all.Goals as goal

pub loop-name-preserved : goal.loop-name-preserved
loop-name-preserved g c =
    let i = c.loop-name.invariant in (
      i.0 ++ c.in-Some.name.now ∷ [],
      walked c.into_iter-name-iterator.result i.0 c.loop-name.name-iterator c.next.new.self c.in-Some.name.now i.1 c.in-Some.ensures.steps,
      before_more (λ n (e : Pair). IsPortServedBy c.args.mapping.now c.args.held.now n e.0 × (e.1 ≡ c.args.target)) i.0 c.in-Some.name.now (HasPairIn c.args.pairs.now) (HasPairIn c.loop-name.pairs) (HasPairIn c.add_served_by.new.pairs) i.2
          (c.in_ok-add_served_by.ensures),
    )

pub returns : goal.returns
returns g c =
    let i = c.loop-name.invariant in
    named c.args.mapping.now c.args.held.now c.args.names.now c.args.target i.0 (HasPairIn c.args.pairs.now) (HasPairIn c.loop-name.pairs)
    (walk_end c.into_iter-name-iterator.result i.0 c.loop-name.name-iterator i.1 c.in-None.ensures.steps.0 ∙ c.into_iter-name-iterator.ensures.into_iter_gives.0) i.2
