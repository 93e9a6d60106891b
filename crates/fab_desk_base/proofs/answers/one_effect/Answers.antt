use Rattle.fab_desk_base.specs.Commands.{tried}
use Rattle.fab_desk_base.proofs.Tried.{one_done}
use Rattle.fab_desk_base.proofs.answers.one_effect.Goals as goal

pub returns : goal.returns
returns g c w caller a b h k = one_done w caller (tried c.args.command.now) a b h k
