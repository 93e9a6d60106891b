use Rattle.std.proofs.Common.{◌≡◌, ◌∷◌, [], ◌++◌, List, map, length, sym, ap, subst, ◌∙◌, append_assoc, arith}
use Rattle.std.proofs.lemmas.List.{map-append}
use Rattle.std.specs.Vec.Iter.{into_iter_items}
use Rattle.fab_desk_machine.specs.fab_desk_base.Answers.{Request}
use Rattle.fab_desk_machine.specs.fab_desk_base.declared.reply.Reply.{Reply}
use Rattle.fab_desk_machine.specs.Proposals.{asked_of}
use Rattle.fab_desk.specs.Handled.{AreHandled}
use Rattle.fab_desk.proofs.AnsweredByDesk.{gone_through}
use Rattle.fab_desk.proofs.InTurn.{handled_more, left, run, stays}
use Rattle.fab_desk.proofs.run.handle_all.Goals as goal

pub loop-asked-preserved : goal.loop-asked-preserved
loop-asked-preserved g c =
    let at = c.loop-asked in
    let q = c.in-Some.asked in
    let first = c.args.desk.now in
    let new = c.handle_asked.new.desk in
    let r = c.handle_asked.result in
    let steps : into_iter_items at.asked-iterator ≡ q ∷ into_iter_items c.next.new.self = c.in-Some.ensures.steps.0 in
    record {
      whole = append_assoc at.yielded (q ∷ []) _ ∙ rw (← steps) at.invariant.whole;
      left = let was = at.invariant.left in
          let rest = c.in-Some.ensures.steps.1 in
          let short = ap length steps in
          omega arith;
      handled = subst (λ (qs : List (Request g.row.A.Denot)). AreHandled g.S.Store g.B.PathBook.bounds first qs c.push_reserved.new.self.items new) (sym (map-append asked_of at.yielded (q ∷ [])))
          (subst (λ (rs : List (Reply g.row.A.Denot)). AreHandled g.S.Store g.B.PathBook.bounds first (map asked_of at.yielded ++ asked_of q ∷ []) rs new) (sym c.push_reserved.ensures.items)
          (handled_more g.S.Store g.B.PathBook.bounds first at.desk new (map asked_of at.yielded) at.replies.items (asked_of q) r at.invariant.handled c.handle_asked.ensures.handles c.handle_asked.ensures.asks));
      room = omega (arith, c.push_reserved.ensures.capacity, c.push_reserved.ensures.len, c.in-Some.ensures.steps.1, at.invariant.room);
    }

pub returns-clause-handled : goal.returns-clause-handled
returns-clause-handled g c =
    let all : c.loop-asked.yielded ≡ c.args.requests.items = gone_through c.args.requests.items c.loop-asked.yielded (into_iter_items c.loop-asked.asked-iterator) (c.loop-asked.invariant.whole ∙ c.into_iter-asked-iterator.ensures.into_iter_gives.0) (sym c.loop-asked.invariant.left ∙ c.in-None.ensures.steps.0) in
    subst (λ asked. AreHandled g.S.Store g.B.PathBook.bounds c.args.desk.now (map (asked_of {A = g.row.A.Denot}) asked) c.loop-asked.replies.items c.loop-asked.desk) all c.loop-asked.invariant.handled

pub returns-clause-policy : goal.returns-clause-policy
returns-clause-policy g c = (run g.S.Store g.B.PathBook.bounds c.steps_are_done.ensures c.args.desk.now c.loop-asked.desk (map asked_of c.args.requests.items) c.loop-asked.replies.items (returns-clause-handled g c)).policy

pub returns-clause-halted : goal.returns-clause-halted
returns-clause-halted g c = stays g.S.Store g.B.PathBook.bounds c.steps_are_done.ensures c.args.desk.now c.loop-asked.desk (map asked_of c.args.requests.items) c.loop-asked.replies.items (returns-clause-handled g c)

pub returns-clause-clean : goal.returns-clause-clean
returns-clause-clean g c = (run g.S.Store g.B.PathBook.bounds c.steps_are_done.ensures c.args.desk.now c.loop-asked.desk (map asked_of c.args.requests.items) c.loop-asked.replies.items (returns-clause-handled g c)).clean

pub returns-clause-run : goal.returns-clause-run
returns-clause-run g c = (run g.S.Store g.B.PathBook.bounds c.steps_are_done.ensures c.args.desk.now c.loop-asked.desk (map asked_of c.args.requests.items) c.loop-asked.replies.items (returns-clause-handled g c)).leads

pub returns-clause-tied : goal.returns-clause-tied
returns-clause-tied g c = (run g.S.Store g.B.PathBook.bounds c.steps_are_done.ensures c.args.desk.now c.loop-asked.desk (map asked_of c.args.requests.items) c.loop-asked.replies.items (returns-clause-handled g c)).bound

pub returns-clause-stop : goal.returns-clause-stop
returns-clause-stop g c = left g.S.Store g.B.PathBook.bounds c.steps_are_done.ensures c.args.desk.now c.loop-asked.desk (map asked_of c.args.requests.items) c.loop-asked.replies.items (returns-clause-handled g c)
