use Rattle.std.proofs.Common.{[], ◌∷◌, ◌++◌, sym}
use Rattle.std.specs.Map.Iter.{deref_pair}
use Rattle.std.proofs.lemmas.Map.Iter.{rest_more, rest_all}
use Rattle.fab_lemmas.proofs.Walks.{walked, walk_end}
use Rattle.fab_zoning.specs.Edits.{IsIn}
use Rattle.fab_reach_base.proofs.Adding.{before_none, before_more}
use Rattle.std.specs.Ordering.{nat_cmp}
use Rattle.fab_reach_index.specs.Indexes.{zone_cmp}
use Rattle.fab_reach_index.specs.Inner.Placing.{ByPortZones}
use Rattle.fab_reach_index.proofs.ZonesPlaced.{ports_placed}
use Rattle.fab_reach_index.proofs.zone_ports.add_ports.Goals as goal

pub loop-port-init : goal.loop-port-init
loop-port-init g c = ([], sym c.into_iter-port-iterator.ensures.into_iter_gives.0, before_none ByPortZones (IsIn zone_cmp nat_cmp c.args.ports.now))

pub loop-port-preserved : goal.loop-port-preserved
loop-port-preserved g c =
    let i = c.loop-port.invariant in (
      i.0 ++ (c.in-Some.port.now, c.in-Some.own.now) ∷ [],
      walked c.args.zones.now.entries i.0 c.loop-port.port-iterator c.next.new.self (c.in-Some.port.now, c.in-Some.own.now) i.1 (rest_more deref_pair c.loop-port.port-iterator c.next.new.self c.next.result (c.in-Some.port, c.in-Some.own) c.in-Some.is c.next.ensures.steps),
      before_more ByPortZones i.0 (c.in-Some.port.now, c.in-Some.own.now) (IsIn zone_cmp nat_cmp c.args.ports.now) (IsIn zone_cmp nat_cmp c.loop-port.ports) (IsIn zone_cmp nat_cmp c.add_port.new.ports) i.2 c.in_ok-add_port.ensures,
    )

pub returns : goal.returns
returns g c =
    let i = c.loop-port.invariant in
    ports_placed c.args.zones.now i.0 (IsIn zone_cmp nat_cmp c.args.ports.now) (IsIn zone_cmp nat_cmp c.loop-port.ports) c.into_iter-port-iterator.ensures.into_iter_gives.5
    (walk_end c.args.zones.now.entries i.0 c.loop-port.port-iterator i.1 (rest_all deref_pair c.loop-port.port-iterator c.next.new.self c.next.result c.in-None.is c.next.ensures.steps)) i.2
