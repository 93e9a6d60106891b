use Rattle.std.proofs.Common.{inr, refl}
use Rattle.fab_program_desks.proofs.serving.serve_by.Goals as goal

pub returns-in-Ok-new : goal.returns-in-Ok-new
returns-in-Ok-new g c = rw c.in-Ok.is (inr (_, refl, c.serve_at.ensures))
