use Rattle.fab_reach_books.specs.CountLaws.{still}
use Rattle.fab_reach_books.proofs.laws.no_step_is_bounded.Goals as goal

pub returns : goal.returns
returns c w n = still w n
