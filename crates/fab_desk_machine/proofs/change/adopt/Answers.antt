use Rattle.fab_desk_machine.proofs.PathLists.{no_step}
use Rattle.fab_desk_machine.proofs.change.adopt.Goals as goal

pub returns-in-None-clause-delta : goal.returns-in-None-clause-delta
returns-in-None-clause-delta g c old new ready = no_step (g.B.PathBook.leads c.args.book.now) old new c.args.step c.no_paths.result.gained.items c.no_paths.result.lost.items c.in-None.is ready c.no_paths.ensures
