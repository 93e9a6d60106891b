use Rattle.std.proofs.Common.{subst, List}
use Rattle.fab_wire_log.specs.Pending.{Advances}
use Rattle.fab_wire_log.specs.declared.pending.Line.{Line}
use Rattle.fab_wire_log.proofs.PendingLemmas.{advances_twice}
use Rattle.fab_wire_serving.proofs.room.Room.finish.Goals as goal

pub returns-clause-lines : goal.returns-clause-lines
returns-clause-lines g c =
    let tells = g.C.Ticks.tells c.args.watch.now.clock.now in let fails = g.C.Ticks.fails c.args.watch.now.clock.now in
    let noted = rw c.see_off.ensures.clock at c.note_all.ensures.lines in
    subst (λ (lines : List Line). Advances tells fails g.W.Write.contents c.args.watch.now.log c.args.self.now.pending.lines.items c.note_all.new.watch.log lines) c.note_all.ensures.none
    (advances_twice tells fails g.W.Write.contents _ _ _ _ _ _ c.see_off.ensures.lines noted)
