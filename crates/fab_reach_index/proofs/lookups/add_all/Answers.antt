use Rattle.std.proofs.Common.{◌∷◌, [], ◌++◌, ◌∙◌}
use Rattle.fab_lemmas.proofs.Walks.{walked, walk_end}
use Rattle.fab_reach_base.proofs.Adding.{before_more}
use Rattle.fab_reach_books.specs.Inner.Sets.{HasPortIn}
use Rattle.fab_reach_books.proofs.SetLoops.{Is, adds_port, ports_added}
use Rattle.fab_reach_index.proofs.lookups.add_all.Goals as goal

pub loop-port-preserved : goal.loop-port-preserved
loop-port-preserved g c =
    let i = c.loop-port.invariant in (
      i.0 ++ c.in-Some.port.now ∷ [],
      walked c.into_iter-port-iterator.result i.0 c.loop-port.port-iterator c.next.new.self c.in-Some.port.now i.1 c.in-Some.ensures.steps,
      before_more (Is) i.0 c.in-Some.port.now (HasPortIn c.args.ports.now) (HasPortIn c.loop-port.ports) (HasPortIn c.insert.new.self) i.2
          (adds_port c.loop-port.ports c.insert.new.self c.in-Some.port.now c.in_ok-insert.ensures.updates.0),
    )

pub returns : goal.returns
returns g c =
    let i = c.loop-port.invariant in
    ports_added c.args.these.now i.0 (HasPortIn c.args.ports.now) (HasPortIn c.loop-port.ports) i.2
    (walk_end c.into_iter-port-iterator.result i.0 c.loop-port.port-iterator i.1 c.in-None.ensures.steps.0 ∙ c.into_iter-port-iterator.ensures.into_iter_gives.0)
