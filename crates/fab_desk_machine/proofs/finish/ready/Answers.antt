use Rattle.fab_desk_machine.proofs.Ends.{ready_change}
use Rattle.fab_desk_machine.proofs.finish.ready.Goals as goal

pub returns-in-Ok : goal.returns-in-Ok
returns-in-Ok g c p judged =
    let s = c.args.sender.now in
    ready_change p c.args.world.now s.id s.name s.moment (g.B.PathBook.leads c.args.book.now) c.args.command c.args.prepared.effect c.requires.prepared.effect judged c.in-Ok.next c.args.prepared.step c.report_of-report.result c.requires.change c.in-Ok.ensures.world c.in-Ok.ensures.suits c.requires.prepared.step c.report_of-report.ensures
