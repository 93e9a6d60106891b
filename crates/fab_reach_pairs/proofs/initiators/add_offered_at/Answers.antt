use Rattle.std.proofs.Common.{sym}
use Rattle.fab_reach_books.specs.Inner.Sets.{HasPairIn}
use Rattle.fab_reach_pairs.proofs.OfInitiators.{targets_at, no_targets_at}
use Rattle.fab_reach_pairs.proofs.initiators.add_offered_at.Goals as goal

pub returns-in_default : goal.returns-in_default
returns-in_default g c = no_targets_at c.args.mapping.now c.args.index.now.groups c.args.holder.now c.args.initiator (HasPairIn c.args.pairs.now) (sym c.in_default.ensures.value)

pub returns : goal.returns
returns g c = targets_at c.args.mapping.now c.args.index.now.groups c.args.holder.now c.args.initiator c.in-Some.groups.now c.in_ok-targets.targets (HasPairIn c.args.pairs.now) (HasPairIn c.add_with_initiator.new.pairs) (sym c.in-Some.ensures.value) c.in_ok-targets.ensures c.in_ok-add_with_initiator.ensures
