use Rattle.std.proofs.Common.{◌∷◌, [], ◌++◌, ◌∙◌, refl}
use Rattle.fab_lemmas.proofs.Walks.{walked, walk_end}
use Rattle.fab_reach_base.proofs.Adding.{before_none, before_more}
use Rattle.fab_reach_books.specs.Inner.Sets.{HasPortIn}
use Rattle.fab_reach_moves.proofs.ListsAfter.{IfUnsaid, ports_unsaid}
use Rattle.fab_reach_moves.proofs.lists_after.add_all_unless_said.Goals as goal

pub loop-port-init : goal.loop-port-init
loop-port-init g c = ([], refl, λ rows s. before_none (IfUnsaid rows) (HasPortIn c.args.ports.now))

pub loop-port-preserved : goal.loop-port-preserved
loop-port-preserved g c =
    let i = c.loop-port.invariant in (
      i.0 ++ c.in-Some.port.now ∷ [],
      walked c.into_iter-port-iterator.result i.0 c.loop-port.port-iterator c.next.new.self c.in-Some.port.now i.1 c.in-Some.ensures.steps,
      λ rows s. before_more (IfUnsaid rows) i.0 c.in-Some.port.now (HasPortIn c.args.ports.now) (HasPortIn c.loop-port.ports) (HasPortIn c.add_unless_said.new.ports) (i.2 rows s) (c.in_ok-add_unless_said.ensures rows s),
    )

pub returns : goal.returns
returns g c rows s =
    let i = c.loop-port.invariant in
    ports_unsaid rows c.args.these.now i.0 (HasPortIn c.args.ports.now) (HasPortIn c.loop-port.ports)
    (walk_end c.into_iter-port-iterator.result i.0 c.loop-port.port-iterator i.1 c.in-None.ensures.steps.0 ∙ c.into_iter-port-iterator.ensures.into_iter_gives.0) (i.2 rows s)
