use Rattle.std.proofs.Common.{◌∙◌}
use Rattle.fab_reach_index.proofs.patch.clear_places.Goals as goal

pub loop-key-preserved : goal.loop-key-preserved
loop-key-preserved g c q k = c.clear_place.ensures q k ∙ c.loop-key.invariant q k
