use Rattle.std.proofs.Common.{[], ◌∷◌, ◌++◌, sym}
use Rattle.std.proofs.lemmas.Map.Iter.{rest_more, rest_all}
use Rattle.fab_lemmas.proofs.Walks.{walked, walk_end}
use Rattle.fab_reach_index.proofs.Patching.{puts_none, puts_more, puts_all, among_first, among_next, has_place}
use Rattle.fab_reach_index.proofs.patch.put_all.Goals as goal

pub loop-key-init : goal.loop-key-init
loop-key-init g c = ([], sym c.into_iter-key-iterator.ensures.into_iter_gives.0, λ room. puts_none g.met.Q.Ord.total g.met.Q.Key.exact c.args.map.now)

pub loop-key-preserved : goal.loop-key-preserved
loop-key-preserved g c =
    let i = c.loop-key.invariant in
    let next = rest_more (λ p. p) c.loop-key.key-iterator c.next.new.self c.next.result (c.in-Some.key, c.in-Some.set) c.in-Some.is c.next.ensures.steps in
    let ordered = c.into_iter-key-iterator.ensures.into_iter_gives.5 in
    let here = among_next c.args.patch.entries i.0 c.loop-key.key-iterator c.next.new.self (c.in-Some.key, c.in-Some.set) i.1 next in (
      i.0 ++ (c.in-Some.key, c.in-Some.set) ∷ [],
      walked c.args.patch.entries i.0 c.loop-key.key-iterator c.next.new.self (c.in-Some.key, c.in-Some.set) i.1 next,
      λ room. puts_more g.met.Q.Ord.total g.met.Q.Key.exact c.args.patch i.0 (c.in-Some.key, c.in-Some.set) c.args.map.now c.loop-key.map c.put.new.map ordered
          (among_first c.args.patch.entries i.0 c.loop-key.key-iterator i.1) here (i.2 room)
          (c.put.ensures ((i.2 room).stays c.in-Some.key (room c.in-Some.key (has_place g.met.Q.Ord.total g.met.Q.Key.exact c.args.patch (c.in-Some.key, c.in-Some.set) ordered here)))),
    )

pub returns : goal.returns
returns g c room =
    let i = c.loop-key.invariant in
    puts_all g.K.Ord.cmp g.met.Q.Ord.total g.met.Q.Key.exact c.args.patch c.args.map.now c.loop-key.map i.0 c.into_iter-key-iterator.ensures.into_iter_gives.5
    (walk_end c.args.patch.entries i.0 c.loop-key.key-iterator i.1 (rest_all (λ p. p) c.loop-key.key-iterator c.next.new.self c.next.result c.in-None.is c.next.ensures.steps)) (i.2 room)
