use Rattle.std.proofs.Common.{sym, subst}
use Rattle.fab_reach_base.specs.Gathering.{AreGroupsOf}
use Rattle.fab_reach_base.specs.Views.{seen}
use Rattle.fab_reach_base.proofs.listing.add_pair.Goals as goal

pub add_pair_of-requires-clause-groups : goal.add_pair_of-requires-clause-groups
add_pair_of-requires-clause-groups g c =
    subst (AreGroupsOf (seen c.args.view.now).config.mapping c.args.host.now) (sym c.get.ensures.value) (λ n. c.requires.index (c.args.host.now, n))
