use Rattle.std.proofs.Common.{◌≡◌}
use Rattle.fab_wire_log.specs.Pending.{Advances}
use Rattle.fab_wire_serving.specs.Starts.{AreTold}
use Rattle.fab_wire_serving.proofs.room.Room.next_turn.Given as goal

abbrev pub invariant-loop : goal.invariant-loop
invariant-loop g l =
    (Advances (g.C.Ticks.tells l.fn.watch.clock.now) (g.C.Ticks.fails l.fn.watch.clock.now) g.W.Write.contents l.fn.watch.log l.fn.self.pending.lines.items l.watch.log l.self.pending.lines.items)
    × (l.watch.clock.now ≡ l.fn.watch.clock.now)
    × (l.watch.most ≡ l.fn.watch.most)
    × AreTold (g.C.Ticks.tells l.fn.watch.clock.now) l.self.starts.items
