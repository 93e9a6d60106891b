use Rattle.fab_desk_base.proofs.OneAnswer.{one_denial}
use Rattle.fab_desk_base.proofs.answers.one_denial.Goals as goal

pub returns : goal.returns
returns g c p w id caller moment f k h j = one_denial w p id caller moment c.args.command.now f k h j
