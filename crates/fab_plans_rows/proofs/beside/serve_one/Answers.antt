use Rattle.std.proofs.Common.{◌∷◌, [], ◌++◌, sym}
use Rattle.std.specs.Map.Iter.{deref}
use Rattle.std.proofs.lemmas.Map.Iter.{rest_more, rest_all}
use Rattle.fab_lemmas.proofs.Walks.{walked, walk_end}
use Rattle.fab_plans_rows.specs.Inner.Beside.{ServesNoneOf}
use Rattle.fab_plans_rows.proofs.Clearing.{all_none, all_more, all_in}
use Rattle.fab_plans_rows.proofs.beside.serve_one.Goals as goal

pub loop-name-init : goal.loop-name-init
loop-name-init g c = (c.host_groups-name-items.result, c.host_groups-name-items.ensures.host_groups, [], sym c.into_iter-name-iterator.ensures.into_iter_gives, all_none (ServesNoneOf c.args.mapping.now c.args.other.now))

pub loop-name-preserved : goal.loop-name-preserved
loop-name-preserved g c =
    let i = c.loop-name.invariant in (
      i.0,
      i.1,
      i.2 ++ c.in-Some.name.now ∷ [],
      walked i.0 i.2 c.loop-name.name-iterator c.next.new.self c.in-Some.name.now i.3 (rest_more deref c.loop-name.name-iterator c.next.new.self c.next.result c.in-Some.name c.in-Some.is c.next.ensures.steps),
      all_more (ServesNoneOf c.args.mapping.now c.args.other.now) i.2 c.in-Some.name.now i.4 (c.serves_one_of.ensures c.if-serves_one_of.false),
    )

pub returns : goal.returns
returns g c found_none =
    let i = c.loop-name.invariant in
    all_in (ServesNoneOf c.args.mapping.now c.args.other.now) c.args.group.now.host_groups i.2 i.0 (walk_end i.0 i.2 c.loop-name.name-iterator i.3 (rest_all deref c.loop-name.name-iterator c.next.new.self c.next.result c.in-None.is c.next.ensures.steps)) i.1 i.4
