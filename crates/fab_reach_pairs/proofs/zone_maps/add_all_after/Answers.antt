use Rattle.std.proofs.Common.{◌∷◌, [], ◌++◌, ◌∙◌, refl}
use Rattle.std.specs.Ordering.{nat_cmp}
use Rattle.fab_lemmas.proofs.Walks.{walked, walk_end}
use Rattle.fab_zoning.specs.Edits.{IsIn}
use Rattle.fab_reach_base.proofs.Adding.{before_none, before_more}
use Rattle.fab_reach_index.specs.Indexes.{zone_cmp}
use Rattle.fab_reach_index.specs.Inner.Placing.{ByZone}
use Rattle.fab_reach_pairs.proofs.ZonesGathered.{all_after}
use Rattle.fab_reach_pairs.proofs.zone_maps.add_all_after.Goals as goal

pub loop-port-init : goal.loop-port-init
loop-port-init g c = ([], refl, λ v s t. before_none (ByZone v) (IsIn nat_cmp zone_cmp c.args.zones.now))

pub loop-port-preserved : goal.loop-port-preserved
loop-port-preserved g c =
    let i = c.loop-port.invariant in (
      i.0 ++ c.in-Some.port.now ∷ [],
      walked c.into_iter-port-iterator.result i.0 c.loop-port.port-iterator c.next.new.self c.in-Some.port.now i.1 c.in-Some.ensures.steps,
      λ v s t. before_more (ByZone v) i.0 c.in-Some.port.now (IsIn nat_cmp zone_cmp c.args.zones.now) (IsIn nat_cmp zone_cmp c.loop-port.zones) (IsIn nat_cmp zone_cmp c.add_zones_after.new.zones) (i.2 v s t) (c.in_ok-add_zones_after.ensures v s t),
    )

pub returns : goal.returns
returns g c v s t =
    let i = c.loop-port.invariant in
    all_after v c.args.ports.now i.0 (IsIn nat_cmp zone_cmp c.args.zones.now) (IsIn nat_cmp zone_cmp c.loop-port.zones)
    (walk_end c.into_iter-port-iterator.result i.0 c.loop-port.port-iterator i.1 c.in-None.ensures.steps.0 ∙ c.into_iter-port-iterator.ensures.into_iter_gives.0) (i.2 v s t)
