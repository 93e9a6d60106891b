use Rattle.std.proofs.Common.{refl, sym, subst, List, [], ◌∷◌}
use Rattle.fab_wire_log.specs.Pending.{AreMarked}
use Rattle.fab_wire_log.specs.declared.pending.Line.{Line}
use Rattle.fab_wire_log.proofs.PendingLemmas.{are_marked_refl, known_number}
use Rattle.fab_wire_log.proofs.pending.Pending.note_first.Goals as goal

pub returns-clause-lines : goal.returns-clause-lines
returns-clause-lines g c =
    let line = c.ended-line.result in let rest = c.pop_front.new.self.items in
    let tells = g.C.Ticks.tells c.args.watch.now.clock.now in let fails = g.C.Ticks.fails c.args.watch.now.clock.now in
    let known = known_number line.milliseconds 0 c.unwrap_or.result c.ended-line.ensures.known c.unwrap_or.ensures in (
      line ∷ [],
      subst (λ (lines : List Line). AreMarked tells fails lines (line ∷ rest)) (sym c.in-Some.ensures.items) (c.ended-line.ensures.marked, are_marked_refl tells fails rest),
      (c.write_line.new.self.log, c.unwrap_or.result, known, c.write_line.ensures.line, refl),
    )
