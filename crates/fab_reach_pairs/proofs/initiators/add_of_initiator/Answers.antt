use Rattle.fab_reach_books.specs.Inner.Sets.{HasPairIn}
use Rattle.fab_reach_base.specs.Views.{seen}
use Rattle.fab_reach_pairs.proofs.OfInitiators.{of_initiator}
use Rattle.fab_reach_pairs.proofs.initiators.add_of_initiator.Goals as goal

pub returns : goal.returns
returns g c v d t = of_initiator (seen c.args.before.now) c.args.index.now c.requires v c.args.touched.now t c.args.name.now (HasPairIn c.args.pairs.now) (HasPairIn c.add_offered_before.new.pairs) (HasPairIn c.add_offered_after.new.pairs) c.in_ok-add_offered_before.ensures (c.in_ok-add_offered_after.ensures v d t)
