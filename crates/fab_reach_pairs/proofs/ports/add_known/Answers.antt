use Rattle.std.proofs.Common.{◌∷◌, [], ◌++◌, sym, ◌∙◌}
use Rattle.std.specs.Map.Iter.{deref_pair}
use Rattle.std.proofs.lemmas.Map.Iter.{rest_more, rest_all}
use Rattle.fab_lemmas.proofs.Walks.{walked, walk_end}
use Rattle.fab_reach_base.specs.Views.{seen}
use Rattle.fab_reach_base.proofs.Adding.{before_none, before_more}
use Rattle.fab_reach_books.specs.Inner.Sets.{HasPortIn}
use Rattle.fab_reach_books.proofs.SetLoops.{adds_port}
use Rattle.fab_reach_pairs.proofs.Owning.{ByKnown, known_added}
use Rattle.fab_reach_pairs.proofs.ports.add_known.Goals as goal

pub loop-name-init : goal.loop-name-init
loop-name-init g c = (c.ports-name-items.result, c.ports-name-items.ensures, [], sym c.into_iter-name-iterator.ensures.into_iter_gives, before_none ByKnown (HasPortIn c.args.ports.now))

pub loop-name-preserved : goal.loop-name-preserved
loop-name-preserved g c =
    let i = c.loop-name.invariant in (
      i.0,
      i.1,
      i.2 ++ (c.in-Some.name.now, c.in-Some._known.now) ∷ [],
      walked i.0 i.2 c.loop-name.name-iterator c.next.new.self (c.in-Some.name.now, c.in-Some._known.now) i.3 (rest_more deref_pair c.loop-name.name-iterator c.next.new.self c.next.result (c.in-Some.name, c.in-Some._known) c.in-Some.is c.next.ensures.steps),
      before_more ByKnown i.2 (c.in-Some.name.now, c.in-Some._known.now) (HasPortIn c.args.ports.now) (HasPortIn c.loop-name.ports) (HasPortIn c.insert.new.self) i.4 (adds_port c.loop-name.ports c.insert.new.self c.in-Some.name.now c.in_ok-insert.ensures.updates.0),
    )

pub returns : goal.returns
returns g c =
    let i = c.loop-name.invariant in
    known_added (seen c.args.view.now) i.2 (HasPortIn c.args.ports.now) (HasPortIn c.loop-name.ports)
    (walk_end i.0 i.2 c.loop-name.name-iterator i.3 (rest_all deref_pair c.loop-name.name-iterator c.next.new.self c.next.result c.in-None.is c.next.ensures.steps) ∙ i.1) i.4
