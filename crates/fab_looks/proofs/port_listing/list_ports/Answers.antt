use Rattle.std.proofs.Common.{◌∷◌, [], ◌++◌, sym, ap, ◌∙◌}
use Rattle.std.specs.FinMap as map
use Rattle.std.specs.Map.Iter.{deref_pair}
use Rattle.std.proofs.lemmas.Map.Iter.{rest_more, rest_all}
use Rattle.fab_reach_base.proofs.fab_lemmas.Walks.{walked, walk_end}
use Rattle.fab_reach_base.proofs.Adding.{before_none, before_more}
use Rattle.fab_reach_base.proofs.Gathering.{adds_port}
use Rattle.fab_world.specs.Worlds.{WorldRows}
use Rattle.fab_looks.specs.Lists.{HasPort}
use Rattle.fab_looks.proofs.Opens.{ByKey, ports_are}
use Rattle.fab_looks.proofs.port_listing.list_ports.Goals as goal

pub loop-port-init : goal.loop-port-init
loop-port-init g c = (
  c.new-ports.result,
  c.new-ports.ensures.empty,
  c.ports-port-items.result,
  c.ports-port-items.ensures ∙ ap (λ (v : WorldRows). map.entries v.inventory.ports) c.world.view_is,
  [],
  sym c.into_iter-port-iterator.ensures.into_iter_gives,
  before_none ByKey (HasPort c.new-ports.result),
)

pub loop-port-preserved : goal.loop-port-preserved
loop-port-preserved g c =
    let i = c.loop-port.invariant in (
      i.0,
      i.1,
      i.2,
      i.3,
      i.4 ++ (c.in-Some.port.now, c.in-Some._known.now) ∷ [],
      walked i.2 i.4 c.loop-port.port-iterator c.next.new.self (c.in-Some.port.now, c.in-Some._known.now) i.5 (rest_more deref_pair c.loop-port.port-iterator c.next.new.self c.next.result (c.in-Some.port, c.in-Some._known) c.in-Some.is c.next.ensures.steps),
      before_more ByKey i.4 (c.in-Some.port.now, c.in-Some._known.now) (HasPort i.0) (HasPort c.loop-port.ports) (HasPort c.insert.new.self) i.6 (adds_port c.loop-port.ports c.insert.new.self c.in-Some.port.now c.in_ok-insert.ensures.updates.0),
    )

pub returns : goal.returns
returns g c =
    let i = c.loop-port.invariant in
    ports_are c.args.world.now i.4 i.0 c.loop-port.ports i.1
    (walk_end i.2 i.4 c.loop-port.port-iterator i.5 (rest_all deref_pair c.loop-port.port-iterator c.next.new.self c.next.result c.in-None.is c.next.ensures.steps) ∙ i.3) i.6
