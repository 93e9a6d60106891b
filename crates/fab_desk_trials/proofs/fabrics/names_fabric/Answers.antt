use Rattle.fab_desk_trials.proofs.FabricsNamed.{steps_name}
use Rattle.fab_desk_trials.proofs.fabrics.names_fabric.Goals as goal

pub returns : goal.returns
returns g c w are = steps_name w c.args.command.now c.args.fabric c.args.steps.now c.are_of.result c.in_default.not-Import are c.are_of.ensures
