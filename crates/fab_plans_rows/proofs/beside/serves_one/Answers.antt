use Rattle.std.proofs.Common.{◌∷◌, [], ◌++◌, sym}
use Rattle.std.specs.Map.Iter.{deref}
use Rattle.std.proofs.lemmas.Map.Iter.{rest_more, rest_all}
use Rattle.fab_lemmas.proofs.Walks.{walked, walk_end}
use Rattle.fab_plans_rows.specs.Inner.Beside.{HasNoneOf}
use Rattle.fab_plans_rows.proofs.Clearing.{all_none, all_more, all_in}
use Rattle.fab_plans_rows.proofs.beside.serves_one.Goals as goal

pub loop-name-init : goal.loop-name-init
loop-name-init g c = (c.host_groups-name-items.result, c.host_groups-name-items.ensures.host_groups, [], sym c.into_iter-name-iterator.ensures.into_iter_gives, all_none (HasNoneOf c.args.mapping.now c.args.hosts.now))

pub loop-name-preserved : goal.loop-name-preserved
loop-name-preserved g c =
    let i = c.loop-name.invariant in (
      i.0,
      i.1,
      i.2 ++ c.in-Some.name.now ∷ [],
      walked i.0 i.2 c.loop-name.name-iterator c.next.new.self c.in-Some.name.now i.3 (rest_more deref c.loop-name.name-iterator c.next.new.self c.next.result c.in-Some.name c.in-Some.is c.next.ensures.steps),
      all_more (HasNoneOf c.args.mapping.now c.args.hosts.now) i.2 c.in-Some.name.now i.4 (c.has_one_of.ensures c.if-has_one_of.false),
    )

pub returns : goal.returns
returns g c found_none =
    let i = c.loop-name.invariant in
    all_in (HasNoneOf c.args.mapping.now c.args.hosts.now) c.args.group.now.host_groups i.2 i.0 (walk_end i.0 i.2 c.loop-name.name-iterator i.3 (rest_all deref c.loop-name.name-iterator c.next.new.self c.next.result c.in-None.is c.next.ensures.steps)) i.1 i.4
