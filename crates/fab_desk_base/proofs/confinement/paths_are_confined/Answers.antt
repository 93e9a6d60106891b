use Rattle.fab_desk_base.proofs.Confined.{confined}
use Rattle.fab_desk_base.proofs.confinement.paths_are_confined.Goals as goal

pub returns : goal.returns
returns g c p confines w q new is id has t moves = confined p confines w q c.args.reply.now new is id has t moves
