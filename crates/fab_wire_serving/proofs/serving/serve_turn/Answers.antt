use Rattle.std.proofs.Common.{rules, ℕ, Some, None, subst}
use Rattle.std.specs.Time.{instant_nanos}
use Rattle.fab_wire_gathering.specs.Guests.{gathered_of}
use Rattle.fab_wire_serving.specs.Coming.{CameSo}
use Rattle.fab_wire_serving.specs.Sides.{begun_sides}
use Rattle.fab_wire_serving.specs.Turns.{Gives}
use Rattle.fab_wire_serving.proofs.ComingLemmas.{forgotten, told_at}
use Rattle.fab_wire_log.proofs.PendingLemmas.{advances_marked}
use Rattle.fab_wire_serving.proofs.serving.serve_turn.Given.{N-step}
use Rattle.fab_wire_serving.proofs.serving.serve_turn.Goals as goal

pub returns-clause-turn : goal.returns-clause-turn
returns-clause-turn g c =
    let clock = c.args.watch.now.clock.now in let tells = g.C.Ticks.tells clock in let fails = g.C.Ticks.fails clock in
    let moment = c.in-Some.moment in let given : Gives (N-step g) (Some c.in-Some.moment) = search rules in
    let restored = c.restore.new.server in let served = c.serve_guest-answer.ensures in
    let read = rw c.make_room.ensures.clock at c.begun.ensures in
    let began = told_at tells fails c.args.turn.start c.begun.result c.requires.start read in
    let end = rw c.make_room.ensures.most at c.after-limit.ensures.end in
    let untold = forgotten g.D.Server.serves g.met.D.Forgets.forgets restored moment (gathered_of c.args.turn.guest) _ c.serve_guest-answer.new.server served.0 served.1 in
    let in_time = subst (λ (e : ℕ). CameSo (λ outcome after. g.D.Server.serves restored moment (begun_sides None None e) after outcome c.serve_guest-answer.new.server) served.0) end untold in
    let marked = rw (c.make_room.ensures.clock, c.put_off.ensures.pending) at c.end_turn.ensures.lines in (
      c.make_room.new.watch.log,
      c.make_room.new.self.pending.lines.items,
      record { moment = moment; shown = c.serve_guest-answer.result.0; start = c.args.turn.start; milliseconds = None },
      c.make_room.ensures.lines,
      ((given, (restored, served.0, c.restore.ensures, (instant_nanos c.begun.result, began, in_time), served.2)), c.requires.start, tt),
      advances_marked tells fails g.W.Write.contents _ _ _ marked,
    )
