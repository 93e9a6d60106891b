use Rattle.fab_wire_log.proofs.PendingLemmas.{advances_refl, advances_marked, advances_twice}
use Rattle.fab_wire_serving.proofs.room.Room.go_round.Goals as goal

pub returns-in_err-now-clause-lines : goal.returns-in_err-now-clause-lines
returns-in_err-now-clause-lines g c =
    advances_refl (g.C.Ticks.tells c.args.watch.now.clock.now) (g.C.Ticks.fails c.args.watch.now.clock.now) g.W.Write.contents _ _

pub returns-in_err-now-2-clause-lines : goal.returns-in_err-now-2-clause-lines
returns-in_err-now-2-clause-lines g c =
    let tells = g.C.Ticks.tells c.args.watch.now.clock.now in let fails = g.C.Ticks.fails c.args.watch.now.clock.now in
    advances_twice tells fails g.W.Write.contents _ _ _ _ _ _ (advances_marked tells fails g.W.Write.contents _ _ _ c.mark_ended.ensures.lines) c.note.ensures.lines

pub returns-clause-lines : goal.returns-clause-lines
returns-clause-lines g c =
    let tells = g.C.Ticks.tells c.args.watch.now.clock.now in let fails = g.C.Ticks.fails c.args.watch.now.clock.now in
    advances_twice tells fails g.W.Write.contents _ _ _ _ _ _ (advances_marked tells fails g.W.Write.contents _ _ _ c.mark_ended.ensures.lines) c.note.ensures.lines
