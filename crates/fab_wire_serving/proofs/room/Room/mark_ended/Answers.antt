use Rattle.std.proofs.Common.{rules, refl}
use Rattle.fab_wire_log.proofs.PendingLemmas.{are_marked_refl, are_marked_twice}
use Rattle.fab_wire_serving.proofs.room.Room.mark_ended.Goals as goal

pub loop-init : goal.loop-init
loop-init g c = (are_marked_refl _ _ c.args.self.now.pending.lines.items, refl)

pub loop-preserved : goal.loop-preserved
loop-preserved g c = (are_marked_twice _ _ _ _ _ c.loop.invariant.0 c.end.ensures.marked, search rules)
