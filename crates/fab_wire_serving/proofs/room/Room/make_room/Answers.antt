use Rattle.fab_wire_log.proofs.PendingLemmas.{advances_refl}
use Rattle.fab_wire_serving.proofs.room.Room.make_room.Goals as goal

pub returns-then-not-is_full-clause-lines : goal.returns-then-not-is_full-clause-lines
returns-then-not-is_full-clause-lines g c =
    advances_refl (g.C.Ticks.tells c.args.watch.now.clock.now) (g.C.Ticks.fails c.args.watch.now.clock.now) g.W.Write.contents _ _
