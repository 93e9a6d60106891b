use Rattle.fab_reach.proofs.FoundMoves.{found_moves, not_moving}
use Rattle.fab_reach.proofs.laws.found_pairs_are_moving.Goals as goal

pub returns : goal.returns
returns c w v moved touched flagged m t f p q = (found_moves w v moved touched flagged m t f p q, not_moving w v moved touched flagged m t f p q)
