use Rattle.fab_desk_machine.proofs.Ends.{plan_there}
use Rattle.fab_desk_machine.proofs.verdicts.denial.Goals as goal

pub judged-requires-clause-there : goal.judged-requires-clause-there
judged-requires-clause-there g c n is = plan_there c.args.world.now c.args.command.now c.requires.there n is
