use Rattle.std.proofs.Common.{refl}
use Rattle.fab_plans_text.proofs.Words.{no_wwn}
use Rattle.fab_plans_text.proofs.word.read_wwn.Goals as goal

pub returns-in-Err : goal.returns-in-Err
returns-in-Err c = record { wrong = no_wwn c.args.word.now c.in-Err.ensures.err; which = refl }
