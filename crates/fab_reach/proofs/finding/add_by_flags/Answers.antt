use Rattle.fab_reach_base.specs.Views.{seen}
use Rattle.fab_reach_books.specs.Inner.Sets.{HasPairIn}
use Rattle.fab_reach_pairs.proofs.LooseLoops.{by_flags}
use Rattle.fab_reach.proofs.finding.add_by_flags.Goals as goal

pub returns : goal.returns
returns g c v = by_flags (seen c.args.before.now) v c.args.moved.now.ports c.args.moved.now.groups c.args.moved.now.flags (HasPairIn c.args.pairs.now) (HasPairIn c.add_if_flagged.new.pairs) (HasPairIn c.add_if_flagged-2.new.pairs) c.in_ok-add_if_flagged.ensures c.in_ok-add_if_flagged-2.ensures
