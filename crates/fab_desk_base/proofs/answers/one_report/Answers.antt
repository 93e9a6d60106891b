use Rattle.fab_desk_base.proofs.OneReport as reports
use Rattle.fab_desk_base.proofs.answers.one_report.Goals as goal

pub returns : goal.returns
returns g c p w id caller moment a b h k = reports.one_report p w id caller moment c.args.command.now c.args.reply.now c.args.other.now a b h k
