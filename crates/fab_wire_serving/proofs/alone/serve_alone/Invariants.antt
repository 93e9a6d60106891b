use Rattle.std.proofs.Common.{◌≡◌, ℕ, List, length}
use Rattle.std.specs.Duration.{as_nanos}
use Rattle.fab_wire_serving.specs.Turns.{Gives, AreTurns, most_turns}
use Rattle.fab_wire_serving.proofs.alone.serve_alone.Given as goal

abbrev pub invariant-loop : goal.invariant-loop
invariant-loop g l =
    ((moments : List ℕ) × AreTurns g.D.Server (goal.O-post g l.fn.again) (Gives (goal.N-step g)) (g.C.Ticks.tells l.fn.watch.clock.now) (g.C.Ticks.fails l.fn.watch.clock.now)
    g.W.Write.contents (as_nanos l.fn.watch.most) l.fn.server l.fn.watch.log moments l.server l.watch.log × (length moments ≡ l.counter))
    × (l.watch.clock.now ≡ l.fn.watch.clock.now)
    × (l.watch.most ≡ l.fn.watch.most)
    × (l.end ≡ most_turns l.fn.count)
