use Rattle.std.specs.Duration.{as_nanos}
use Rattle.fab_wire_serving.specs.Turns.{Gives}
use Rattle.fab_wire_serving.proofs.WaitingLemmas.{played_advances, all_noted}
use Rattle.fab_wire_serving.proofs.serving.serve_room.Given.{O-post, N-step}
use Rattle.fab_wire_serving.proofs.serving.serve_room.Goals as goal

pub returns-clause-turns : goal.returns-clause-turns
returns-clause-turns g c =
    let clock = c.args.watch.now.clock.now in let tells = g.C.Ticks.tells clock in let fails = g.C.Ticks.fails clock in
    let played = c.serve_turns-came.ensures.turns in
    let lines = rw c.serve_turns-came.ensures.clock at c.finish.ensures.lines in
    let done = played_advances g.D.Server (O-post g c.args.again.now) (Gives (N-step g)) tells fails g.W.Write.contents (as_nanos c.args.watch.now.most) _ _ _ _ _ _ _ _ played.1 lines in
    let all = all_noted g.D.Server (O-post g c.args.again.now) (Gives (N-step g)) tells fails g.W.Write.contents (as_nanos c.args.watch.now.most) _ _ _ _ _ done in
    (all.0, all.1, rw all.2 played.2, rw all.2 played.3)
