use Rattle.std.proofs.Common.{◌∙◌, refl, ◌≡◌, ◌⊎◌, [], ◌∷◌, ◌++◌}
use Rattle.fab_reach_base.specs.Views.{seen}
use Rattle.fab_reach_books.specs.Pairs.{Pair}
use Rattle.fab_reach_books.specs.Inner.Sets.{HasPairIn}
use Rattle.fab_lemmas.proofs.Walks.{walked, walk_end}
use Rattle.fab_reach_base.proofs.Adding.{before_none, before_more}
use Rattle.fab_reach_books.specs.Inner.Moving.{IsOffered}
use Rattle.fab_reach_pairs.specs.Inner.Offering.{IsOfferedByKept}
use Rattle.fab_reach_pairs.proofs.OfInitiators.{of_initiators}
use Rattle.fab_reach_pairs.proofs.initiators.add_of_initiators.Goals as goal

pub loop-name-init : goal.loop-name-init
loop-name-init g c = ([], refl, λ v d t. before_none (λ p (e : Pair). (IsOffered (seen c.args.before.now) e.0 e.1 ⊎ IsOfferedByKept v c.args.touched.now e.0 e.1) × (e.0 ≡ p)) (HasPairIn c.args.pairs.now))

pub loop-name-preserved : goal.loop-name-preserved
loop-name-preserved g c =
    let i = c.loop-name.invariant in (
      i.0 ++ c.in-Some.name.now ∷ [],
      walked c.into_iter-name-iterator.result i.0 c.loop-name.name-iterator c.next.new.self c.in-Some.name.now i.1 c.in-Some.ensures.steps,
      λ v d t. before_more (λ p (e : Pair). (IsOffered (seen c.args.before.now) e.0 e.1 ⊎ IsOfferedByKept v c.args.touched.now e.0 e.1) × (e.0 ≡ p)) i.0 c.in-Some.name.now (HasPairIn c.args.pairs.now) (HasPairIn c.loop-name.pairs) (HasPairIn c.add_of_initiator.new.pairs) (i.2 v d t) (c.in_ok-add_of_initiator.ensures v d t),
    )

pub returns : goal.returns
returns g c v d t =
    let i = c.loop-name.invariant in
    of_initiators (seen c.args.before.now) c.args.index.now c.requires v c.args.touched.now t c.args.names.now i.0 (HasPairIn c.args.pairs.now) (HasPairIn c.loop-name.pairs)
    (walk_end c.into_iter-name-iterator.result i.0 c.loop-name.name-iterator i.1 c.in-None.ensures.steps.0 ∙ c.into_iter-name-iterator.ensures.into_iter_gives.0) (i.2 v d t)
