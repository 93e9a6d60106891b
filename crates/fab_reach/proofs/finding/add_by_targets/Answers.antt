use Rattle.std.proofs.Common.{subst}
use Rattle.fab_reach_base.specs.Views.{seen}
use Rattle.fab_reach_books.specs.Inner.Sets.{HasPairIn, HasPortIn}
use Rattle.fab_reach_pairs.proofs.LooseLoops.{by_targets}
use Rattle.fab_reach_base.specs.Adding.{Adds}
use Rattle.fab_mapping.specs.Mappings.{MappingRows}
use Rattle.fab_reach_pairs.specs.Inner.Offering.{IsPortServedAt}
use Rattle.fab_reach_moves.specs.Moves.{flagged_at}
use Rattle.fab_reach.proofs.finding.add_by_targets.Goals as goal

pub returns : goal.returns
returns g c v = by_targets (seen c.args.before.now) c.args.index.now c.requires.1 v c.args.moved.now.ports c.args.moved.now.groups (flagged_at c.args.moved.now.flags) (HasPairIn c.args.pairs.now) (HasPairIn c.add_offered_to_all.new.pairs)
    (subst (λ (m : MappingRows). Adds (λ e. HasPortIn c.args.moved.now.ports e.1 × IsPortServedAt m c.args.index.now.held c.args.index.now.targeted e.1 e.0) (HasPairIn c.args.pairs.now) (HasPairIn c.add_offered_to_all.new.pairs)) c.mapping.ensures c.in_ok-add_offered_to_all.ensures)
