use Rattle.std.proofs.Common.{◌≡◌, ◌∷◌, [], ◌++◌, ◌∙◌}
use Rattle.fab_lemmas.proofs.Walks.{walked, walk_end}
use Rattle.fab_reach_base.proofs.Adding.{before_more}
use Rattle.fab_reach_books.specs.Inner.Sets.{HasPairIn}
use Rattle.fab_reach_books.specs.Pairs.{Pair}
use Rattle.fab_reach_books.proofs.SetLoops.{adds_pair}
use Rattle.fab_reach_pairs.proofs.OfferLoops.{with_initiator}
use Rattle.fab_reach_pairs.proofs.offers.add_with_initiator.Goals as goal

pub loop-port-preserved : goal.loop-port-preserved
loop-port-preserved g c =
    let i = c.loop-port.invariant in (
      i.0 ++ c.in-Some.port.now ∷ [],
      walked c.into_iter-port-iterator.result i.0 c.loop-port.port-iterator c.next.new.self c.in-Some.port.now i.1 c.in-Some.ensures.steps,
      before_more (λ q (e : Pair). e ≡ (c.args.initiator, q)) i.0 c.in-Some.port.now (HasPairIn c.args.pairs.now) (HasPairIn c.loop-port.pairs) (HasPairIn c.insert.new.self) i.2
          (adds_pair c.loop-port.pairs c.insert.new.self (c.args.initiator, c.in-Some.port.now) c.in_ok-insert.ensures.updates.0),
    )

pub returns : goal.returns
returns g c =
    let i = c.loop-port.invariant in
    with_initiator c.args.targets.now c.args.initiator i.0 (HasPairIn c.args.pairs.now) (HasPairIn c.loop-port.pairs) i.2
    (walk_end c.into_iter-port-iterator.result i.0 c.loop-port.port-iterator i.1 c.in-None.ensures.steps.0 ∙ c.into_iter-port-iterator.ensures.into_iter_gives.0)
