use Rattle.std.proofs.Common.{[], ◌∷◌, ◌++◌, sym, arith}
use Rattle.std.specs.Map.Iter.{deref_pair}
use Rattle.std.proofs.lemmas.Map.Iter.{rest_more, rest_all}
use Rattle.fab_lemmas.proofs.Walks.{walked, walk_end}
use Rattle.fab_reach_index.proofs.Patching.{places_more, places_all, placed_here}
use Rattle.fab_reach_index.proofs.Regathering.{left_more, left_stays}
use Rattle.fab_reach_index.proofs.regather.put_sets.Goals as goal

pub loop-key-init : goal.loop-key-init
loop-key-init g c = ([], sym c.into_iter-key-iterator.ensures.into_iter_gives.0, (λ are. are), (λ q h. h), (λ e h. absurd (omega (arith, h.1))))

pub loop-key-preserved-in_ok-insert : goal.loop-key-preserved-in_ok-insert
loop-key-preserved-in_ok-insert g c =
    let i = c.loop-key.invariant in
    let updates = c.in_ok-insert.ensures.updates.0 in
    let stays = left_stays g.Q.Ord.cmp g.K.Ord.cmp c.args.old.now c.args.gone.now c.args.come.now c.in-Some.key.now c.in_ok-items.items c.loop-key.sets c.insert.new.self updates in (
      i.0 ++ (c.in-Some.key.now, c.in-Some._items.now) ∷ [],
      walked c.args.keys.now.entries i.0 c.loop-key.key-iterator c.next.new.self (c.in-Some.key.now, c.in-Some._items.now) i.1 (rest_more deref_pair c.loop-key.key-iterator c.next.new.self c.next.result (c.in-Some.key, c.in-Some._items) c.in-Some.is c.next.ensures.steps),
      (λ are. left_more g.Q.Ord.cmp g.K.Ord.cmp c.args.old.now c.args.gone.now c.args.come.now g.met.Q.Key.exact c.in-Some.key.now c.in_ok-items.items c.loop-key.sets c.insert.new.self c.in_ok-items.ensures updates (i.2 are)),
      (λ q h. stays q (i.3 q h)),
      places_more g.met.Q.Ord.total g.met.Q.Key.exact i.0 (c.in-Some.key.now, c.in-Some._items.now) c.loop-key.sets c.insert.new.self i.4 stays (placed_here g.met.Q.Ord.total g.met.Q.Key.exact c.in-Some.key.now c.in_ok-items.items c.loop-key.sets c.insert.new.self updates),
    )

pub loop-key-preserved : goal.loop-key-preserved
loop-key-preserved g c =
    let i = c.loop-key.invariant in
    let updates = c.in_ok-insert.ensures.updates.0 in
    let stays = left_stays g.Q.Ord.cmp g.K.Ord.cmp c.args.old.now c.args.gone.now c.args.come.now c.in-Some.key.now c.in_ok-items.items c.loop-key.sets c.insert.new.self updates in (
      i.0 ++ (c.in-Some.key.now, c.in-Some._items.now) ∷ [],
      walked c.args.keys.now.entries i.0 c.loop-key.key-iterator c.next.new.self (c.in-Some.key.now, c.in-Some._items.now) i.1 (rest_more deref_pair c.loop-key.key-iterator c.next.new.self c.next.result (c.in-Some.key, c.in-Some._items) c.in-Some.is c.next.ensures.steps),
      (λ are. left_more g.Q.Ord.cmp g.K.Ord.cmp c.args.old.now c.args.gone.now c.args.come.now g.met.Q.Key.exact c.in-Some.key.now c.in_ok-items.items c.loop-key.sets c.insert.new.self c.in_ok-items.ensures updates (i.2 are)),
      (λ q h. stays q (i.3 q h)),
      places_more g.met.Q.Ord.total g.met.Q.Key.exact i.0 (c.in-Some.key.now, c.in-Some._items.now) c.loop-key.sets c.insert.new.self i.4 stays (placed_here g.met.Q.Ord.total g.met.Q.Key.exact c.in-Some.key.now c.in_ok-items.items c.loop-key.sets c.insert.new.self updates),
    )

pub returns-clause-there : goal.returns-clause-there
returns-clause-there g c =
    let i = c.loop-key.invariant in
    places_all g.met.Q.Ord.total g.met.Q.Key.exact c.args.keys.now i.0 c.loop-key.sets c.into_iter-key-iterator.ensures.into_iter_gives.5
    (walk_end c.args.keys.now.entries i.0 c.loop-key.key-iterator i.1 (rest_all deref_pair c.loop-key.key-iterator c.next.new.self c.next.result c.in-None.is c.next.ensures.steps)) i.4

pub returns-clause-left : goal.returns-clause-left
returns-clause-left g c = c.loop-key.invariant.2

pub returns-clause-kept : goal.returns-clause-kept
returns-clause-kept g c = c.loop-key.invariant.3
