use Rattle.std.proofs.Common.{◌≡◌, ◌∷◌, [], ◌++◌, ◌∙◌}
use Rattle.fab_lemmas.proofs.Walks.{walked, walk_end}
use Rattle.fab_reach_base.proofs.Adding.{before_more}
use Rattle.fab_reach_books.specs.Inner.Sets.{HasPairIn, HasPortIn}
use Rattle.fab_reach_books.specs.Pairs.{Pair}
use Rattle.fab_reach_pairs.proofs.LooseLoops.{product}
use Rattle.fab_reach_pairs.proofs.loose.add_product.Goals as goal

pub loop-port-preserved : goal.loop-port-preserved
loop-port-preserved g c =
    let i = c.loop-port.invariant in (
      i.0 ++ c.in-Some.port.now ∷ [],
      walked c.into_iter-port-iterator.result i.0 c.loop-port.port-iterator c.next.new.self c.in-Some.port.now i.1 c.in-Some.ensures.steps,
      before_more (λ p (e : Pair). HasPortIn c.args.targets.now e.1 × (e.0 ≡ p)) i.0 c.in-Some.port.now (HasPairIn c.args.pairs.now) (HasPairIn c.loop-port.pairs) (HasPairIn c.add_with_initiator.new.pairs) i.2
          (c.in_ok-add_with_initiator.ensures),
    )

pub returns : goal.returns
returns g c =
    let i = c.loop-port.invariant in
    product c.args.initiators.now c.args.targets.now i.0 (HasPairIn c.args.pairs.now) (HasPairIn c.loop-port.pairs)
    (walk_end c.into_iter-port-iterator.result i.0 c.loop-port.port-iterator i.1 c.in-None.ensures.steps.0 ∙ c.into_iter-port-iterator.ensures.into_iter_gives.0) i.2
