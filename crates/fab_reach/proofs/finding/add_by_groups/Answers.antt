use Rattle.fab_reach_base.specs.Views.{seen}
use Rattle.fab_reach_books.specs.Inner.Sets.{HasPairIn}
use Rattle.fab_reach_moves.specs.Moves.{flagged_at}
use Rattle.fab_reach.proofs.Regroups.{by_groups}
use Rattle.fab_reach.proofs.finding.add_by_groups.Goals as goal

pub returns : goal.returns
returns g c v d = by_groups (seen c.args.before.now) v c.args.moved.now.ports c.args.moved.now.groups (flagged_at c.args.moved.now.flags) (HasPairIn c.args.pairs.now) (HasPairIn c.add_of_groups.new.pairs) (c.in_ok-add_of_groups.ensures v d)
