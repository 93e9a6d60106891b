use Rattle.std.proofs.Common.{◌≡◌}
use Rattle.std.specs.Duration.{as_nanos}
use Rattle.fab_wire_serving.specs.Waiting.{ArePlayed}
use Rattle.fab_wire_serving.specs.Starts.{AreTold}
use Rattle.fab_wire_serving.specs.Turns.{Gives}
use Rattle.fab_wire_serving.proofs.serving.serve_turns.Given as goal

abbrev pub invariant-loop : goal.invariant-loop
invariant-loop g l =
    (ArePlayed g.D.Server (goal.O-post g l.fn.again) (Gives (goal.N-step g)) (g.C.Ticks.tells l.fn.watch.clock.now) (g.C.Ticks.fails l.fn.watch.clock.now)
    g.W.Write.contents (as_nanos l.fn.watch.most) l.fn.server l.fn.watch.log l.counter l.server l.watch.log l.room.pending.lines.items)
    × (l.watch.clock.now ≡ l.fn.watch.clock.now)
    × (l.watch.most ≡ l.fn.watch.most)
    × AreTold (g.C.Ticks.tells l.fn.watch.clock.now) l.room.starts.items
