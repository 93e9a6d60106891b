use Rattle.fab_looks_ways.proofs.Ended.{pairs_listed}
use Rattle.fab_looks_ways.proofs.pairing.pairs_told.Goals as goal

pub pairs_of-requires : goal.pairs_of-requires
pairs_of-requires g c = record { up = λ e h. let x = (c.in_ok-ends.ensures e).0 h in (x.here, x.there) }

pub returns : goal.returns
returns g c = (
  c.in_ok-ends.ends.keys,
  pairs_listed c.args.policy.now c.args.world.now c.args.id c.args.host.now c.args.volume.now c.in_ok-ends.ends c.len-count.ensures.ordered c.in_ok-ends.ensures,
  c.in_ok-pairs.ensures,
)
