use Rattle.std.proofs.Common.{◌≡◌, ◌∷◌, [], ◌++◌, ◌∙◌}
use Rattle.fab_lemmas.proofs.Walks.{walked, walk_end}
use Rattle.fab_reach_base.proofs.Adding.{before_more}
use Rattle.fab_reach_books.specs.Inner.Sets.{HasPairIn, HasPortIn}
use Rattle.fab_reach_books.specs.Pairs.{Pair}
use Rattle.fab_reach.proofs.Regroups.{IsAlike, with_all}
use Rattle.fab_reach.proofs.regrouped.add_unless.Goals as goal

pub loop-initiator-preserved : goal.loop-initiator-preserved
loop-initiator-preserved g c =
    let i = c.loop-initiator.invariant in (
      i.0 ++ c.in-Some.initiator.now ∷ [],
      walked c.into_iter-initiator-iterator.result i.0 c.loop-initiator.initiator-iterator c.next.new.self c.in-Some.initiator.now i.1 c.in-Some.ensures.steps,
      before_more (λ p (e : Pair). HasPortIn c.args.targets.now e.1 × ¬ IsAlike c.args.other.now.ports c.args.other.now.targets c.args.same_units e × (e.0 ≡ p)) i.0 c.in-Some.initiator.now (HasPairIn c.args.pairs.now) (HasPairIn c.loop-initiator.pairs) (HasPairIn c.add_targets_unless.new.pairs) i.2
          (c.in_ok-add_targets_unless.ensures),
    )

pub returns : goal.returns
returns g c =
    let i = c.loop-initiator.invariant in
    with_all c.args.other.now.ports c.args.other.now.targets c.args.same_units c.args.initiators.now c.args.targets.now i.0 (HasPairIn c.args.pairs.now) (HasPairIn c.loop-initiator.pairs)
    (walk_end c.into_iter-initiator-iterator.result i.0 c.loop-initiator.initiator-iterator i.1 c.in-None.ensures.steps.0 ∙ c.into_iter-initiator-iterator.ensures.into_iter_gives.0) i.2
