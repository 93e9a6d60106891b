use Rattle.std.proofs.Common.{◌≡◌, Some, sym, ap, ◌∙◌, subst}
use mathlib.Core.Bool.{true≢false}
use Rattle.std.specs.FinMap as map
use Rattle.fab_reach_base.specs.fab_mapping.Mappings.{MappingRows}
use Rattle.fab_reach_base.specs.Gathering.{Serves}
use Rattle.fab_world.specs.Worlds.{WorldRows, records_of}
use Rattle.fab_looks_ways.specs.Pairs.{HasEnds}
use Rattle.fab_looks_ways.proofs.Ended.{group_added, not_served}
use Rattle.fab_looks_ways.proofs.gathering.add_group.Goals as goal

pub returns-then-not-serves : goal.returns-then-not-serves
returns-then-not-serves g c =
    let there = c.mapping-mapping.ensures ∙ ap (λ (v : WorldRows). v.config.mapping) c.world.view_is in
    let at = subst (λ (m : MappingRows). map.get m.groups c.args.name.now ≡ Some c.in-Some.group.now) there (sym c.in-Some.ensures) in
    not_served (records_of c.args.world.now) c.args.ports.now c.args.host.now c.args.name.now c.in-Some.group.now (HasEnds c.args.ends.now) at
    (λ s. true≢false (sym (c.serves.ensures.1 (subst (λ (m : MappingRows). Serves m c.in-Some.group.now c.args.host.now) (sym there) s)) ∙ c.if-not-serves.true))

pub returns : goal.returns
returns g c =
    let there = c.mapping-mapping.ensures ∙ ap (λ (v : WorldRows). v.config.mapping) c.world.view_is in
    let at = subst (λ (m : MappingRows). map.get m.groups c.args.name.now ≡ Some c.in-Some.group.now) there (sym c.in-Some.ensures) in
    group_added (records_of c.args.world.now) c.args.ports.now c.args.host.now c.args.name.now c.in-Some.group.now (HasEnds c.args.ends.now) (HasEnds c.add_targets.new.ends) at
    (subst (λ (m : MappingRows). Serves m c.in-Some.group.now c.args.host.now) there (c.serves.ensures.0 c.if-not-serves.false)) c.in_ok-add_targets.ensures
