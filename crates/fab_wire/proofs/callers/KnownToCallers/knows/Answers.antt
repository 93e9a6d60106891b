use Rattle.fab_desk.specs.Handled.{policy_of}
use Rattle.fab_wire.proofs.Tokens.{told_known, no_text}
use Rattle.fab_wire.proofs.callers.KnownToCallers.knows.Goals as goal

pub returns-in-Ok : goal.returns-in-Ok
returns-in-Ok g c = told_known (policy_of c.args.self.now.desk.now) c.args.token.now c.knows.result (rw c.in-Ok.ensures.cases.0 at c.knows.ensures)

pub returns-in-Err : goal.returns-in-Err
returns-in-Err g c = no_text (policy_of c.args.self.now.desk.now) c.args.token.now c.policy_is_sound.ensures c.in-Err.ensures.cases.0
