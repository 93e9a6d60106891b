use Rattle.std.proofs.Common.{[], ◌∷◌, ◌++◌, ◌∙◌, refl, sym, arith}
use Rattle.std.specs.Map.Iter.{deref_pair}
use Rattle.std.proofs.lemmas.Map.Iter.{rest_more, rest_all}
use Rattle.fab_lemmas.proofs.Walks.{walked, walk_end}
use Rattle.fab_reach_index.proofs.Patching.{places_more, places_all}
use Rattle.fab_reach_index.proofs.patch.make_places.Goals as goal

pub loop-key-init : goal.loop-key-init
loop-key-init g c = ([], sym c.into_iter-key-iterator.ensures.into_iter_gives.0, (λ q k. refl), (λ e h. absurd (omega (arith, h.1))))

pub loop-key-preserved : goal.loop-key-preserved
loop-key-preserved g c =
    let i = c.loop-key.invariant in (
      i.0 ++ (c.in-Some.key.now, c.in-Some._set.now) ∷ [],
      walked c.args.patch.now.entries i.0 c.loop-key.key-iterator c.next.new.self (c.in-Some.key.now, c.in-Some._set.now) i.1 (rest_more deref_pair c.loop-key.key-iterator c.next.new.self c.next.result (c.in-Some.key, c.in-Some._set) c.in-Some.is c.next.ensures.steps),
      (λ q k. c.make_place.ensures.kept q k ∙ i.2 q k),
      places_more g.met.Q.Ord.total g.met.Q.Key.exact i.0 (c.in-Some.key.now, c.in-Some._set.now) c.loop-key.map c.make_place.new.map i.3 c.make_place.ensures.stays c.in_ok-make_place.ensures.room,
    )

pub returns-clause-room : goal.returns-clause-room
returns-clause-room g c =
    let i = c.loop-key.invariant in
    places_all g.met.Q.Ord.total g.met.Q.Key.exact c.args.patch.now i.0 c.loop-key.map c.into_iter-key-iterator.ensures.into_iter_gives.5
    (walk_end c.args.patch.now.entries i.0 c.loop-key.key-iterator i.1 (rest_all deref_pair c.loop-key.key-iterator c.next.new.self c.next.result c.in-None.is c.next.ensures.steps)) i.3

pub returns-in_err-make_place-clause-kept : goal.returns-in_err-make_place-clause-kept
returns-in_err-make_place-clause-kept g c q k = c.make_place.ensures.kept q k ∙ c.loop-key.invariant.2 q k

pub returns-clause-kept : goal.returns-clause-kept
returns-clause-kept g c = c.loop-key.invariant.2
