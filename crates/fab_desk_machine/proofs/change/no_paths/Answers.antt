use Rattle.fab_desk_machine.proofs.PathLists.{nothing_moves}
use Rattle.fab_desk_machine.proofs.change.no_paths.Goals as goal

pub returns : goal.returns
returns g c w = nothing_moves w c.new.result.items c.new-2.result.items c.new.ensures.items c.new-2.ensures.items
