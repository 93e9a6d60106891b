use Rattle.std.proofs.Common.{◌∷◌, [], ◌++◌, sym, ap, ◌∙◌}
use Rattle.std.specs.FinMap as map
use Rattle.std.specs.Map.Iter.{deref_pair}
use Rattle.std.proofs.lemmas.Map.Iter.{rest_more, rest_all}
use Rattle.fab_reach_base.proofs.fab_lemmas.Walks.{walked, walk_end}
use Rattle.fab_reach_base.specs.fab_mapping.Mappings.{MappingRows}
use Rattle.fab_reach_base.proofs.Adding.{before_none, before_more}
use Rattle.fab_world.specs.Worlds.{WorldRows}
use Rattle.fab_desk_base.specs.Tenants.{Has}
use Rattle.fab_looks_ways.specs.Inner.Gathering.{IsOwnEntry}
use Rattle.fab_looks_ways.proofs.Gains.{all_groups}
use Rattle.fab_looks_ways.proofs.groups.add_groups.Goals as goal

pub loop-name-init : goal.loop-name-init
loop-name-init g c = (
  c.groups-name-items.result,
  c.groups-name-items.ensures ∙ ap (λ (m : MappingRows). map.entries m.groups) c.mapping.ensures ∙ ap (λ (v : WorldRows). map.entries v.config.mapping.groups) c.world.view_is,
  [],
  sym c.into_iter-name-iterator.ensures.into_iter_gives,
  before_none (IsOwnEntry c.args.policy.now c.args.world.now c.args.id c.args.volume.now) (Has c.args.names.now),
)

pub loop-name-preserved : goal.loop-name-preserved
loop-name-preserved g c =
    let i = c.loop-name.invariant in (
      i.0,
      i.1,
      i.2 ++ (c.in-Some.name.now, c.in-Some.group.now) ∷ [],
      walked i.0 i.2 c.loop-name.name-iterator c.next.new.self (c.in-Some.name.now, c.in-Some.group.now) i.3 (rest_more deref_pair c.loop-name.name-iterator c.next.new.self c.next.result (c.in-Some.name, c.in-Some.group) c.in-Some.is c.next.ensures.steps),
      before_more (IsOwnEntry c.args.policy.now c.args.world.now c.args.id c.args.volume.now) i.2 (c.in-Some.name.now, c.in-Some.group.now) (Has c.args.names.now) (Has c.loop-name.names) (Has c.add_group.new.names) i.4 c.in_ok-add_group.ensures,
    )

pub returns : goal.returns
returns g c =
    let i = c.loop-name.invariant in
    all_groups c.args.policy.now c.args.world.now c.args.id c.args.volume.now i.2 (Has c.args.names.now) (Has c.loop-name.names)
    (walk_end i.0 i.2 c.loop-name.name-iterator i.3 (rest_all deref_pair c.loop-name.name-iterator c.next.new.self c.next.result c.in-None.is c.next.ensures.steps) ∙ i.1) i.4
