use Rattle.std.proofs.Common.{◌∷◌, [], ◌++◌, sym, ap, ◌∙◌}
use Rattle.std.specs.FinMap as fin
use Rattle.std.specs.Map.Iter.{deref_pair}
use Rattle.std.proofs.lemmas.Map.Iter.{rest_more, rest_all}
use Rattle.fab_reach_base.proofs.fab_lemmas.Walks.{walked, walk_end}
use Rattle.fab_reach_base.specs.fab_mapping.Mappings.{MappingRows}
use Rattle.fab_reach_base.specs.fab_mapping_base.Groups.{MapsVolume}
use Rattle.fab_world.specs.Worlds.{WorldRows}
use Rattle.fab_looks.specs.Ways.{IsOwnMapping}
use Rattle.fab_looks.proofs.Gathered.{groups_all, groups_more}
use Rattle.fab_looks.proofs.Picks.{picked_none}
use Rattle.fab_looks.proofs.way.add_groups.Goals as goal

pub loop-name-init : goal.loop-name-init
loop-name-init g c = (
  c.groups-name-items.result,
  c.groups-name-items.ensures ∙ ap (λ (m : MappingRows). fin.entries m.groups) c.mapping.ensures ∙ ap (λ (v : WorldRows). fin.entries v.config.mapping.groups) c.world.view_is,
  [],
  sym c.into_iter-name-iterator.ensures.into_iter_gives,
  picked_none (IsOwnMapping c.args.policy.now c.args.world.now c.args.id c.args.volume.now) c.args.queries.now.items,
)

pub loop-name-preserved : goal.loop-name-preserved
loop-name-preserved g c =
    let i = c.loop-name.invariant in
    let next = rest_more deref_pair c.loop-name.name-iterator c.next.new.self c.next.result (c.in-Some.name, c.in-Some.group) c.in-Some.is c.next.ensures.steps in (
      i.0,
      i.1,
      i.2 ++ (c.in-Some.name.now, c.in-Some.group.now) ∷ [],
      walked i.0 i.2 c.loop-name.name-iterator c.next.new.self (c.in-Some.name.now, c.in-Some.group.now) i.3 next,
      groups_more c.args.policy.now c.args.world.now c.args.id (MapsVolume c.args.volume.now) i.0 i.2 c.loop-name.name-iterator c.next.new.self (c.in-Some.name.now, c.in-Some.group.now) c.args.queries.now.items c.loop-name.queries.items c.add_group.new.queries.items i.1 i.3 next i.4 c.in_ok-add_group.ensures,
    )

pub returns : goal.returns
returns g c =
    let i = c.loop-name.invariant in
    groups_all c.args.policy.now c.args.world.now c.args.id (MapsVolume c.args.volume.now) i.0 i.2 c.args.queries.now.items c.loop-name.queries.items
    (walk_end i.0 i.2 c.loop-name.name-iterator i.3 (rest_all deref_pair c.loop-name.name-iterator c.next.new.self c.next.result c.in-None.is c.next.ensures.steps)) i.1 i.4
