use Rattle.std.proofs.Common.{◌≡◌, ◌∷◌, [], ◌++◌, ◌∙◌}
use Rattle.fab_lemmas.proofs.Walks.{walked, walk_end}
use Rattle.fab_reach_base.proofs.Adding.{before_more}
use Rattle.fab_reach_base.specs.Views.{seen}
use Rattle.fab_reach_books.specs.Inner.Sets.{HasPortIn}
use Rattle.fab_reach_pairs.specs.Inner.Offering.{IsLoose}
use Rattle.fab_reach_pairs.proofs.LooseLoops.{all_loose}
use Rattle.fab_reach_pairs.proofs.loose.add_loose.Goals as goal

pub loop-port-preserved : goal.loop-port-preserved
loop-port-preserved g c =
    let i = c.loop-port.invariant in (
      i.0 ++ c.in-Some.port.now ∷ [],
      walked c.into_iter-port-iterator.result i.0 c.loop-port.port-iterator c.next.new.self c.in-Some.port.now i.1 c.in-Some.ensures.steps,
      before_more (λ k p. (p ≡ k) × IsLoose (seen c.args.view.now) c.args.fabric p) i.0 c.in-Some.port.now (HasPortIn c.args.loose.now) (HasPortIn c.loop-port.loose) (HasPortIn c.add_if_loose.new.loose) i.2
          (c.in_ok-add_if_loose.ensures),
    )

pub returns : goal.returns
returns g c =
    let i = c.loop-port.invariant in
    all_loose (seen c.args.view.now) c.requires c.args.fabric c.args.ports.now i.0 (HasPortIn c.args.loose.now) (HasPortIn c.loop-port.loose)
    (walk_end c.into_iter-port-iterator.result i.0 c.loop-port.port-iterator i.1 c.in-None.ensures.steps.0 ∙ c.into_iter-port-iterator.ensures.into_iter_gives.0) i.2
