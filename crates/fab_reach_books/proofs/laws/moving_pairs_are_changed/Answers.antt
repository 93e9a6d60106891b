use Rattle.fab_reach_books.proofs.Staying.{moving_is_affected, differing_is_moving}
use Rattle.fab_reach_books.proofs.laws.moving_pairs_are_changed.Goals as goal

pub returns : goal.returns
returns c w v pairs sw sv once sound complete = record {
  once = once;
  within = λ p q h. moving_is_affected w v p q sw sv (sound p q h);
  all = λ p q d. complete p q (differing_is_moving w v p q sw sv d);
}
