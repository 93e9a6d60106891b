use Rattle.std.proofs.Common.{◌≡◌, ◌∷◌, [], ◌++◌, ◌∙◌}
use Rattle.fab_lemmas.proofs.Walks.{walked, walk_end}
use Rattle.fab_reach_base.proofs.Adding.{before_more}
use Rattle.fab_reach_books.specs.Inner.Sets.{HasPairIn}
use Rattle.fab_reach_books.specs.Pairs.{Pair}
use Rattle.fab_reach.proofs.Regroups.{IsAlike, with_targets}
use Rattle.fab_reach.proofs.regrouped.add_targets_unless.Goals as goal

pub loop-target-preserved : goal.loop-target-preserved
loop-target-preserved g c =
    let i = c.loop-target.invariant in (
      i.0 ++ c.in-Some.target.now ∷ [],
      walked c.into_iter-target-iterator.result i.0 c.loop-target.target-iterator c.next.new.self c.in-Some.target.now i.1 c.in-Some.ensures.steps,
      before_more (λ q (e : Pair). ¬ IsAlike c.args.other.now.ports c.args.other.now.targets c.args.same_units e × (e ≡ (c.args.initiator.now, q))) i.0 c.in-Some.target.now (HasPairIn c.args.pairs.now) (HasPairIn c.loop-target.pairs) (HasPairIn c.add_unless_alike.new.pairs) i.2
          (c.in_ok-add_unless_alike.ensures),
    )

pub returns : goal.returns
returns g c =
    let i = c.loop-target.invariant in
    with_targets c.args.other.now.ports c.args.other.now.targets c.args.same_units c.args.initiator.now c.args.targets.now i.0 (HasPairIn c.args.pairs.now) (HasPairIn c.loop-target.pairs)
    (walk_end c.into_iter-target-iterator.result i.0 c.loop-target.target-iterator i.1 c.in-None.ensures.steps.0 ∙ c.into_iter-target-iterator.ensures.into_iter_gives.0) i.2
