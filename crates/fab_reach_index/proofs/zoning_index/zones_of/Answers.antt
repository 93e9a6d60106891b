use Rattle.std.proofs.Common.{sym, ◌∙◌, [], ◌∷◌, ◌++◌}
use Rattle.std.specs.Map.Iter.{deref_pair}
use Rattle.std.proofs.lemmas.Map.Iter.{rest_more, rest_all}
use Rattle.fab_lemmas.proofs.Walks.{walked, walk_end}
use Rattle.fab_zoning.specs.Edits.{IsIn}
use Rattle.fab_reach_base.proofs.Adding.{before_none, before_more}
use Rattle.std.specs.Ordering.{nat_cmp}
use Rattle.fab_reach_base.specs.Views.{seen}
use Rattle.fab_reach_index.specs.Indexes.{zone_cmp, PortInZone}
use Rattle.fab_reach_index.proofs.ZonesPlaced.{ByEntry, zones_all}
use Rattle.fab_reach_index.proofs.Placed.{tree_is}
use Rattle.fab_reach_index.proofs.zoning_index.zones_of.Goals as goal

pub loop-name-init : goal.loop-name-init
loop-name-init g c = (c.new-zones.result, c.new-zones.ensures.empty, c.ports-name-items.result, c.ports-name-items.ensures, [], sym c.into_iter-name-iterator.ensures.into_iter_gives, before_none (ByEntry (seen c.args.view.now)) (IsIn nat_cmp zone_cmp c.new-zones.result))

pub loop-name-preserved : goal.loop-name-preserved
loop-name-preserved g c =
    let i = c.loop-name.invariant in (
      i.0,
      i.1,
      i.2,
      i.3,
      i.4 ++ (c.in-Some.name.now, c.in-Some._known.now) ∷ [],
      walked i.2 i.4 c.loop-name.name-iterator c.next.new.self (c.in-Some.name.now, c.in-Some._known.now) i.5 (rest_more deref_pair c.loop-name.name-iterator c.next.new.self c.next.result (c.in-Some.name, c.in-Some._known) c.in-Some.is c.next.ensures.steps),
      before_more (ByEntry (seen c.args.view.now)) i.4 (c.in-Some.name.now, c.in-Some._known.now) (IsIn nat_cmp zone_cmp i.0) (IsIn nat_cmp zone_cmp c.loop-name.zones) (IsIn nat_cmp zone_cmp c.add_zones_of.new.zones) i.6 c.in_ok-add_zones_of.ensures,
    )

pub returns : goal.returns
returns g c =
    let i = c.loop-name.invariant in
    let is = walk_end i.2 i.4 c.loop-name.name-iterator i.5 (rest_all deref_pair c.loop-name.name-iterator c.next.new.self c.next.result c.in-None.is c.next.ensures.steps) ∙ i.3 in
    tree_is nat_cmp zone_cmp (PortInZone (seen c.args.view.now)) i.0 c.loop-name.zones i.1 (zones_all (seen c.args.view.now) i.4 (IsIn nat_cmp zone_cmp i.0) (IsIn nat_cmp zone_cmp c.loop-name.zones) is i.6)
