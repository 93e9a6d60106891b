use Rattle.std.proofs.Common.{◌≡◌}
use Rattle.fab_wire_log.specs.Pending.{AreMarked}
use Rattle.fab_wire_serving.proofs.room.Room.mark_ended.Given as goal

abbrev pub invariant-loop : goal.invariant-loop
invariant-loop g l =
    (AreMarked (g.C.Ticks.tells l.fn.watch.clock.now) (g.C.Ticks.fails l.fn.watch.clock.now) l.fn.self.pending.lines.items l.self.pending.lines.items)
    × (l.self.starts ≡ l.fn.self.starts)
