use Rattle.fab_reach_index.proofs.Patching.{cleared}
use Rattle.fab_reach_index.proofs.patch.clear_place.Goals as goal

pub returns-then-is_empty_at : goal.returns-then-is_empty_at
returns-then-is_empty_at g c q k = cleared g.K.Ord.cmp g.met.Q.Key.exact c.args.key.now c.args.map.now c.remove-set.new.self c.remove-set.ensures.updates.0 (c.is_empty_at.ensures c.if-is_empty_at.true) q k
