use Rattle.std.proofs.Common.{sym}
use Rattle.fab_reach_books.specs.Inner.Sets.{HasPairIn}
use Rattle.fab_reach_pairs.proofs.OfInitiators.{kept_at, none_kept_at}
use Rattle.fab_reach_pairs.proofs.initiators.add_kept_at.Goals as goal

pub returns-in_default : goal.returns-in_default
returns-in_default g c = none_kept_at c.args.touched.now c.args.mapping.now c.args.index.now.groups c.args.holder.now c.args.initiator (HasPairIn c.args.pairs.now) (sym c.in_default.ensures.value)

pub returns : goal.returns
returns g c = kept_at c.args.touched.now c.args.mapping.now c.args.index.now.groups c.args.holder.now c.args.initiator c.in-Some.groups.now c.in_ok-targets.targets (HasPairIn c.args.pairs.now) (HasPairIn c.add_with_initiator.new.pairs) (sym c.in-Some.ensures.value) c.in_ok-targets.ensures c.in_ok-add_with_initiator.ensures
