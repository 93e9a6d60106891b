use Rattle.std.proofs.Common.{inr, refl}
use Rattle.fab_desk_machine.proofs.finish.dry_run.Goals as goal

pub returns-in-Ok : goal.returns-in-Ok
returns-in-Ok g c old new ready = inr (c.in-Ok.delta, refl, c.in-Ok.ensures old new ready)
