use Rattle.std.proofs.Common.{sym, subst, List, [], ◌∷◌, ◌++◌}
use Rattle.fab_wire_log.specs.Pending.{AreMarked}
use Rattle.fab_wire_log.specs.declared.pending.Line.{Line}
use Rattle.fab_wire_log.proofs.PendingLemmas.{are_marked_refl}
use Rattle.fab_wire_serving.proofs.room.Room.end_turn.Goals as goal

pub returns-in-Some-clause-lines : goal.returns-in-Some-clause-lines
returns-in-Some-clause-lines g c =
    let lines = c.args.self.now.pending.lines.items ++ c.args.line ∷ [] in
    let tells = g.C.Ticks.tells c.args.watch.now.clock.now in let fails = g.C.Ticks.fails c.args.watch.now.clock.now in
    subst (λ (pushed : List Line). AreMarked tells fails lines pushed) (sym c.push.ensures.items) (are_marked_refl tells fails lines)
