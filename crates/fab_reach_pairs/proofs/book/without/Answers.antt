use Rattle.fab_reach_pairs.proofs.Deltas.{without_list}
use Rattle.fab_reach_pairs.proofs.book.without.Goals as goal

pub returns : goal.returns
returns g c = without_list c.args.these.now c.args.those.now c.difference-all.result c.in_ok-items.items.items c.difference-all.ensures.members c.difference-all.ensures.ordered c.difference-all.ensures.rest c.in_ok-items.ensures
