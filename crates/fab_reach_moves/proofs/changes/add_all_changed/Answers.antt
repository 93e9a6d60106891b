use Rattle.std.proofs.Common.{sym, ◌∙◌, [], ◌∷◌, ◌++◌}
use Rattle.std.specs.Map.Iter.{deref_pair}
use Rattle.std.proofs.lemmas.Map.Iter.{rest_more, rest_all}
use Rattle.fab_lemmas.proofs.Walks.{walked, walk_end}
use Rattle.fab_reach_base.proofs.Adding.{before_none, before_more}
use Rattle.fab_reach_base.specs.Views.{seen}
use Rattle.fab_reach_books.specs.Inner.Sets.{HasPortIn}
use Rattle.fab_reach_moves.specs.Inner.Changing.{world_at}
use Rattle.fab_reach_moves.proofs.Changed.{ByEntry, all_changed}
use Rattle.fab_reach_moves.proofs.changes.add_all_changed.Goals as goal

pub loop-name-init : goal.loop-name-init
loop-name-init g c = (c.ports-name-items.result, c.ports-name-items.ensures, [], sym c.into_iter-name-iterator.ensures.into_iter_gives, λ v gone come d a b. before_none (ByEntry (seen c.args.before.now) (world_at c.args.is_before (seen c.args.before.now) v) c.args.key.now) (HasPortIn c.args.ports.now))

pub loop-name-preserved : goal.loop-name-preserved
loop-name-preserved g c =
    let i = c.loop-name.invariant in (
      i.0,
      i.1,
      i.2 ++ (c.in-Some.name.now, c.in-Some._known.now) ∷ [],
      walked i.0 i.2 c.loop-name.name-iterator c.next.new.self (c.in-Some.name.now, c.in-Some._known.now) i.3 (rest_more deref_pair c.loop-name.name-iterator c.next.new.self c.next.result (c.in-Some.name, c.in-Some._known) c.in-Some.is c.next.ensures.steps),
      λ v gone come d a b. before_more (ByEntry (seen c.args.before.now) (world_at c.args.is_before (seen c.args.before.now) v) c.args.key.now) i.2 (c.in-Some.name.now, c.in-Some._known.now) (HasPortIn c.args.ports.now) (HasPortIn c.loop-name.ports) (HasPortIn c.add_known_if_changed.new.ports) (i.4 v gone come d a b) (c.in_ok-add_known_if_changed.ensures v gone come d a b),
    )

pub returns : goal.returns
returns g c v gone come d a b =
    let i = c.loop-name.invariant in
    all_changed (seen c.args.before.now) (world_at c.args.is_before (seen c.args.before.now) v) c.args.key.now i.2 (HasPortIn c.args.ports.now) (HasPortIn c.loop-name.ports)
    (walk_end i.0 i.2 c.loop-name.name-iterator i.3 (rest_all deref_pair c.loop-name.name-iterator c.next.new.self c.next.result c.in-None.is c.next.ensures.steps) ∙ i.1) (i.4 v gone come d a b)
