use Rattle.std.proofs.Common.{refl}
use Rattle.fab_desk_commands.proofs.rollback.parts_before.Goals as goal

pub returns : goal.returns
returns g c = (refl, refl, c.in_ok-change.ensures c.args.config c.requires.before)
