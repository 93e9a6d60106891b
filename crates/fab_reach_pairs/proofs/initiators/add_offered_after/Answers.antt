use Rattle.std.proofs.Common.{subst, ◌≡◌}
use Rattle.fab_reach_books.specs.Inner.Sets.{HasPairIn}
use Rattle.fab_reach_base.specs.Views.{seen}
use Rattle.fab_mapping.specs.Mappings.{MappingRows}
use Rattle.fab_reach_base.specs.Adding.{Adds}
use Rattle.fab_reach_pairs.specs.Inner.Offering.{IsKeptAt}
use Rattle.fab_reach_pairs.proofs.OfInitiators.{offered_after, not_offered_after}
use Rattle.fab_reach_pairs.proofs.initiators.add_offered_after.Goals as goal

pub returns-in_default : goal.returns-in_default
returns-in_default g c v d t = not_offered_after (seen c.args.before.now) c.args.index.now c.requires v c.args.touched.now t c.args.name.now (HasPairIn c.args.pairs.now) (c.in_default.ensures v d)

pub returns : goal.returns
returns g c v d t = offered_after (seen c.args.before.now) c.args.index.now c.requires v c.args.touched.now t c.args.name.now c.in-Some.holder (HasPairIn c.args.pairs.now) (HasPairIn c.add_kept_at.new.pairs) (c.in-Some.ensures v d)
    (subst (λ (m : MappingRows). Adds (λ e. IsKeptAt m c.args.index.now.groups c.args.touched.now c.in-Some.holder e.1 × (e.0 ≡ c.args.name.now)) (HasPairIn c.args.pairs.now) (HasPairIn c.add_kept_at.new.pairs)) c.mapping.ensures c.in_ok-add_kept_at.ensures)
