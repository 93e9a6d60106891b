use Rattle.std.proofs.Common.{subst, ◌≡◌}
use Rattle.fab_reach_books.specs.Inner.Sets.{HasPairIn}
use Rattle.fab_reach_base.specs.Views.{seen}
use Rattle.fab_mapping.specs.Mappings.{MappingRows}
use Rattle.fab_reach_base.specs.Adding.{Adds}
use Rattle.fab_reach_pairs.specs.Inner.Offering.{IsTargetAt}
use Rattle.fab_reach_pairs.proofs.OfInitiators.{offered_before, not_offered_before}
use Rattle.fab_reach_pairs.proofs.initiators.add_offered_before.Goals as goal

pub returns-in_default : goal.returns-in_default
returns-in_default g c = not_offered_before (seen c.args.before.now) c.args.index.now c.requires c.args.name.now (HasPairIn c.args.pairs.now) c.in_default.ensures

pub returns : goal.returns
returns g c = offered_before (seen c.args.before.now) c.args.index.now c.requires c.args.name.now c.in-Some.holder (HasPairIn c.args.pairs.now) (HasPairIn c.add_offered_at.new.pairs) c.in-Some.ensures
    (subst (λ (m : MappingRows). Adds (λ e. IsTargetAt m c.args.index.now.groups c.in-Some.holder e.1 × (e.0 ≡ c.args.name.now)) (HasPairIn c.args.pairs.now) (HasPairIn c.add_offered_at.new.pairs)) c.mapping.ensures c.in_ok-add_offered_at.ensures)
