use Rattle.std.specs.Duration.{as_nanos}
use Rattle.fab_wire_serving.specs.Turns.{Gives}
use Rattle.fab_wire_serving.proofs.WaitingLemmas.{taken_behind, on_ok_map}
use Rattle.fab_wire_serving.proofs.serving.serve_next.Given.{O-post, N-step}
use Rattle.fab_wire_serving.proofs.serving.serve_next.Goals as goal

pub returns-clause-turn : goal.returns-clause-turn
returns-clause-turn g c =
    let clock = c.args.watch.now.clock.now in
    let taken = rw (c.next_turn.ensures.clock, c.next_turn.ensures.most) at c.serve_turn.ensures.turn in
    on_ok_map c.serve_turn.result _ _
    (taken_behind g.D.Server (O-post g c.args.again.now) (Gives (N-step g)) (g.C.Ticks.tells clock) (g.C.Ticks.fails clock) g.W.Write.contents (as_nanos c.args.watch.now.most)
    _ _ _ _ _ _ _ _ c.next_turn.ensures.lines) taken
