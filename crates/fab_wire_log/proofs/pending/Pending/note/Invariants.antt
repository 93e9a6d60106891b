use Rattle.std.proofs.Common.{◌≡◌, length}
use Rattle.fab_wire_log.specs.Pending.{Advances}
use Rattle.fab_wire_log.proofs.pending.Pending.note.Given as goal

abbrev pub invariant-loop-self : goal.invariant-loop-self
invariant-loop-self g l =
    (Advances (g.C.Ticks.tells l.fn.watch.clock.now) (g.C.Ticks.fails l.fn.watch.clock.now) g.W.Write.contents l.fn.watch.log l.fn.self.lines.items l.watch.log l.self.lines.items)
    × (l.watch.clock.now ≡ l.fn.watch.clock.now)
    × (l.watch.most ≡ l.fn.watch.most)

abbrev pub decreases-loop-self : goal.decreases-loop-self
decreases-loop-self g l = length l.self.lines.items
