use Rattle.fab_desk_machine.specs.fab_desk_commands.Nexts.{next_world}
use Rattle.fab_desk.proofs.Tied.{ok_as}
use Rattle.fab_desk.proofs.moves.moves.Goals as goal

pub returns : goal.returns
returns g c = ok_as c.change_lines.result (λ lines moved. moved c.args.world.now (next_world c.args.world.now c.args.next.now) c.requires.sound c.requires.next_sound c.in_ok-changes.ensures) c.change_lines.ensures
