use Rattle.fab_store.proofs.Other.{tells_other}
use Rattle.fab_store.proofs.opening.other_in.Goals as goal

pub returns-in-Some : goal.returns-in-Some
returns-in-Some c = tells_other c.args.line.now c.in-Some.schema c.other.result c.in-Some.ensures c.other.ensures

pub returns-in-None : goal.returns-in-None
returns-in-None c n told = c.in-None.ensures n told.0
