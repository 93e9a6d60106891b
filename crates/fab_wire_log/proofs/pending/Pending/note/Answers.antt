use Rattle.std.proofs.Common.{rules, refl}
use Rattle.fab_wire_log.proofs.PendingLemmas.{advances_refl, advances_twice}
use Rattle.fab_wire_log.proofs.pending.Pending.note.Goals as goal

pub loop-self-preserved : goal.loop-self-preserved
loop-self-preserved g c =
    let next = rw c.loop-self.invariant.1 at c.note_first.ensures.lines in
    (advances_twice (g.C.Ticks.tells c.args.watch.now.clock.now) (g.C.Ticks.fails c.args.watch.now.clock.now) g.W.Write.contents _ _ _ _ _ _ c.loop-self.invariant.0 next, search rules, search rules)

pub loop-self-init : goal.loop-self-init
loop-self-init g c = (advances_refl (g.C.Ticks.tells c.args.watch.now.clock.now) (g.C.Ticks.fails c.args.watch.now.clock.now) g.W.Write.contents _ _, refl, refl)
