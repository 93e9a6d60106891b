use Rattle.std.proofs.Common.{◌∷◌, [], ◌++◌, sym, ◌∙◌}
use Rattle.std.specs.Map.Iter.{deref_pair}
use Rattle.std.proofs.lemmas.Map.Iter.{rest_more, rest_all}
use Rattle.fab_lemmas.proofs.Walks.{walked, walk_end}
use Rattle.fab_reach_base.specs.Gathering.{Lists}
use Rattle.fab_reach_base.proofs.Adding.{before_none, before_more}
use Rattle.fab_looks.specs.Inner.Serving.{ByGroup}
use Rattle.fab_looks.proofs.Services.{all_offer}
use Rattle.fab_looks.proofs.serving.served_hosts.Goals as goal

pub loop-name-init : goal.loop-name-init
loop-name-init g c = (c.new-served.result, c.new-served.ensures.empty, c.groups-name-items.result, c.groups-name-items.ensures, [], sym c.into_iter-name-iterator.ensures.into_iter_gives, before_none (ByGroup c.args.mapping.now c.args.volume.now) (Lists c.new-served.result))

pub loop-name-preserved : goal.loop-name-preserved
loop-name-preserved g c =
    let i = c.loop-name.invariant in (
      i.0,
      i.1,
      i.2,
      i.3,
      i.4 ++ (c.in-Some.name.now, c.in-Some.group.now) ∷ [],
      walked i.2 i.4 c.loop-name.name-iterator c.next.new.self (c.in-Some.name.now, c.in-Some.group.now) i.5 (rest_more deref_pair c.loop-name.name-iterator c.next.new.self c.next.result (c.in-Some.name, c.in-Some.group) c.in-Some.is c.next.ensures.steps),
      before_more (ByGroup c.args.mapping.now c.args.volume.now) i.4 (c.in-Some.name.now, c.in-Some.group.now) (Lists i.0) (Lists c.loop-name.served) (Lists c.serve_volume.new.served) i.6 c.in_ok-serve_volume.ensures,
    )

pub returns : goal.returns
returns g c =
    let i = c.loop-name.invariant in
    all_offer c.args.mapping.now c.args.volume.now i.4 i.0 c.loop-name.served i.1
    (walk_end i.2 i.4 c.loop-name.name-iterator i.5 (rest_all deref_pair c.loop-name.name-iterator c.next.new.self c.next.result c.in-None.is c.next.ensures.steps) ∙ i.3) i.6
