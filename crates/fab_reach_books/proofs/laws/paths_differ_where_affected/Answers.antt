use Rattle.fab_reach_books.proofs.Staying.{moving_is_affected, differing_is_moving}
use Rattle.fab_reach_books.proofs.laws.paths_differ_where_affected.Goals as goal

pub returns : goal.returns
returns c w v p q sw sv d = moving_is_affected w v p q sw sv (differing_is_moving w v p q sw sv d)
