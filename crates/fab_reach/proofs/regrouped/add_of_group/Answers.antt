use Rattle.fab_reach_base.specs.Views.{seen}
use Rattle.fab_reach_books.specs.Inner.Sets.{HasPairIn}
use Rattle.fab_reach.proofs.Regroups.{of_group}
use Rattle.fab_reach.proofs.regrouped.add_of_group.Goals as goal

pub returns : goal.returns
returns g c v d =
    let w = seen c.args.before.now in
    of_group w v c.args.name.now c.in_ok-here.here.ports c.in_ok-here.here.targets c.in_ok-there.there.ports c.in_ok-there.there.targets c.has_same_units-same_units.result c.in_ok-here.ensures (c.in_ok-there.ensures v d) (c.has_same_units-same_units.ensures w v d)
    (HasPairIn c.args.pairs.now) (HasPairIn c.add_unless.new.pairs) (HasPairIn c.add_unless-2.new.pairs) c.in_ok-add_unless.ensures c.in_ok-add_unless-2.ensures
