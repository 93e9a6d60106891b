use Rattle.std.proofs.Common.{◌≡◌}
use Rattle.fab_wire_serving.specs.Starts.{AreTold}
use Rattle.fab_wire_serving.proofs.room.Room.take_up.Given as goal

abbrev pub invariant-loop : goal.invariant-loop
invariant-loop g l =
    AreTold (g.C.Ticks.tells l.fn.watch.clock.now) l.self.starts.items
    × (l.self.pending ≡ l.fn.self.pending)
