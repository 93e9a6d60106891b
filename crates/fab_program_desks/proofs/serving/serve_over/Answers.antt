use Rattle.fab_wire_serving.specs.Turns.{Gives}
use Rattle.fab_program_desks.specs.Databases.{IsAgain}
use Rattle.fab_program_desks.specs.contracts.front.FrontServer.TheImpl as front
use Rattle.fab_program_desks.proofs.Served.{after_desk}
use Rattle.fab_program_desks.proofs.serving.serve_over.Given.{F-post, N-step}
use Rattle.fab_program_desks.proofs.serving.serve_over.Goals as goal

pub returns-in-Ok : goal.returns-in-Ok
returns-in-Ok g c = rw c.in-Ok.is (
  c.desk_over-desk.result,
  c.desk_over-desk.ensures,
  after_desk
      (front.ghosts g.row.O-Tables g.O.Tables.Store g.O.Tables.Store-dict g.O.Tables.Destruct-dict)
      g.W.Write.contents
      (F-post g c.args.again.now)
      (IsAgain (g.O.Databases.finds c.args.outside.now c.args.asked.now.db.now))
      c.requires.found
      (Gives (N-step g))
      c.args.asked.now.count
      _
      _
      c.desk_over-desk.result
      c.args.log
      c.serve_by.result
      c.serve_by.ensures,
)
