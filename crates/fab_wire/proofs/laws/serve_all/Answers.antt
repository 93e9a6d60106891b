use Rattle.std.proofs.Common.{◌≡◌, ◌∷◌, [], length, sym, ap, subst, ◌∙◌, append_assoc, arith}
use Rattle.std.specs.Vec.Iter.{into_iter_items}
use Rattle.fab_desk.proofs.AnsweredByDesk.{gone_through}
use Rattle.fab_wire.specs.InTurn.{AreServed}
use Rattle.fab_wire.proofs.InTurn.{served_more}
use Rattle.fab_wire.proofs.Runs.{leads_to}
use Rattle.fab_wire.proofs.laws.serve_all.Goals as goal

pub loop-connection-preserved : goal.loop-connection-preserved
loop-connection-preserved g c =
    let at = c.loop-connection in
    let q = c.in-Some.connection in
    let steps : into_iter_items at.connection-iterator ≡ q ∷ into_iter_items c.next.new.self = c.in-Some.ensures.steps.0 in
    record {
      whole = append_assoc at.yielded (q ∷ []) _ ∙ rw (← steps) at.invariant.whole;
      left = let was = at.invariant.left in
          let rest = c.in-Some.ensures.steps.1 in
          let short = ap length steps in
          omega arith;
      told = rw c.push_reserved.ensures.items (served_more g.S.Store g.R.Read.remaining g.W.Write.contents c.args.desk.now at.desk c.serve.new.desk at.yielded at.all.items q c.serve.result at.invariant.told c.serve.ensures);
      room = omega (arith, c.push_reserved.ensures.capacity, c.push_reserved.ensures.len, c.in-Some.ensures.steps.1, at.invariant.room);
    }

pub returns-clause-served : goal.returns-clause-served
returns-clause-served g c =
    let all : c.loop-connection.yielded ≡ c.args.connections.items = gone_through c.args.connections.items c.loop-connection.yielded (into_iter_items c.loop-connection.connection-iterator) (c.loop-connection.invariant.whole ∙ c.into_iter-connection-iterator.ensures.into_iter_gives.0) (sym c.loop-connection.invariant.left ∙ c.in-None.ensures.steps.0) in
    subst (λ cs. AreServed g.S.Store g.R.Read.remaining g.W.Write.contents c.args.desk.now cs c.loop-connection.all.items c.loop-connection.desk) all c.loop-connection.invariant.told

pub returns-clause-run : goal.returns-clause-run
returns-clause-run g c =
    leads_to g.S.Store g.R.Read.remaining g.W.Write.contents (λ p w q r v step. (c.steps_are_done.ensures p w q r v step).1) c.args.desk.now c.loop-connection.desk c.args.connections.items c.loop-connection.all.items (returns-clause-served g c)
