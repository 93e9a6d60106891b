use Rattle.std.proofs.Common.{List, Bor, map, sym, ap, subst, arith}
use Rattle.std.specs.FinMap.{get}
use Rattle.fab_names.specs.declared.fabric.Fabric.{Fabric}
use Rattle.fab_inventory.specs.declared.port.Port.{Port}
use Rattle.fab_mapping_base.specs.Groups.{StorageGroupRows}
use Rattle.fab_reach_base.specs.Views.{seen}
use Rattle.fab_looks.specs.Links.{IsLogin, IsExposedBy}
use Rattle.fab_looks.specs.Inner.Offers.{AreJust}
use Rattle.fab_looks.proofs.Filled.{has_none, has_some, none_has, some_has, no_value, a_value}
use Rattle.fab_looks.proofs.Gains.{now, not_bare_now}
use Rattle.fab_looks.proofs.Ways.{known_ends, mapped_in, served_in, exposed_in, mapped_none, served_none, exposed_none}
use Rattle.fab_looks.proofs.explaining.explain.Goals as goal

pub returns-then-is_empty : goal.returns-then-is_empty
returns-then-is_empty g c = (
  c.is_host.ensures.0 c.if-not-is_host.false,
  λ h. none_has (λ (p : Port). (f : Fabric) × IsLogin (seen c.args.view.now) c.args.host.now f p) c.in_ok-ports.ports.items (has_none c.in_ok-ports.ports.items c.in_ok-ports.ports.len c.is_empty.result (omega arith) c.is_empty.ensures c.if-is_empty.true) c.in_ok-ports.ensures h.1 (h.0, h.2),
)

pub returns-then-is_none : goal.returns-then-is_none
returns-then-is_none g c =
    let s = some_has (λ (p : Port). (f : Fabric) × IsLogin (seen c.args.view.now) c.args.host.now f p) c.in_ok-ports.ports.items (has_some c.in_ok-ports.ports.items c.in_ok-ports.ports.len c.is_empty.result (omega arith) c.is_empty.ensures c.if-is_empty.false) c.in_ok-ports.ensures in (
      (s.1.0, s.0, s.1.1),
      λ h. no_value c.volume.result (get (seen c.args.view.now).inventory.volumes c.args.volume.now) c.is_none.result c.volume.ensures.volume c.is_none.ensures c.if-is_none.true h.1,
    )

pub returns-then-is_empty-2 : goal.returns-then-is_empty-2
returns-then-is_empty-2 g c =
    let w = seen c.args.view.now in
    let host = c.args.host.now in
    let volume = c.args.volume.now in
    let known = known_ends w host volume c.in_ok-ports.ports.items (has_some c.in_ok-ports.ports.items c.in_ok-ports.ports.len c.is_empty.result (omega arith) c.is_empty.ensures c.if-is_empty.false) c.in_ok-ports.ensures (a_value c.volume.result (get w.inventory.volumes volume) c.is_none.result c.volume.ensures.volume c.is_none.ensures c.if-is_none.false) in
    mapped_none w host volume (map now c.in_ok-mapped.mapped.items) known
    (ap (map now) (has_none c.in_ok-mapped.mapped.items c.in_ok-mapped.mapped.len c.is_empty-2.result (omega arith) c.is_empty-2.ensures c.if-is_empty-2.true))
    (mapped_in w host volume c.mapping-mapping.result.now (map now c.in_ok-mapped.mapped.items) c.mapping-mapping.ensures c.in_ok-mapped.ensures)

pub returns-then-is_empty-3 : goal.returns-then-is_empty-3
returns-then-is_empty-3 g c =
    let w = seen c.args.view.now in
    let host = c.args.host.now in
    let volume = c.args.volume.now in
    let known = known_ends w host volume c.in_ok-ports.ports.items (has_some c.in_ok-ports.ports.items c.in_ok-ports.ports.len c.is_empty.result (omega arith) c.is_empty.ensures c.if-is_empty.false) c.in_ok-ports.ensures (a_value c.volume.result (get w.inventory.volumes volume) c.is_none.result c.volume.ensures.volume c.is_none.ensures c.if-is_none.false) in
    let mapped = mapped_in w host volume c.mapping-mapping.result.now (map now c.in_ok-mapped.mapped.items) c.mapping-mapping.ensures c.in_ok-mapped.ensures in
    served_none w host volume (map now c.in_ok-mapped.mapped.items) (map now c.in_ok-served.served.items) known
    (not_bare_now c.in_ok-mapped.mapped.items (has_some c.in_ok-mapped.mapped.items c.in_ok-mapped.mapped.len c.is_empty-2.result (omega arith) c.is_empty-2.ensures c.if-is_empty-2.false))
    mapped
    (ap (map now) (has_none c.in_ok-served.served.items c.in_ok-served.served.len c.is_empty-3.result (omega arith) c.is_empty-3.ensures c.if-is_empty-3.true))
    (served_in w host volume c.mapping-mapping.result.now c.in_ok-mapped.mapped.items c.deref.result.now (map now c.in_ok-served.served.items) c.mapping-mapping.ensures c.deref.ensures.value mapped c.in_ok-served.ensures)

pub returns-then-is_empty-4 : goal.returns-then-is_empty-4
returns-then-is_empty-4 g c =
    let w = seen c.args.view.now in
    let host = c.args.host.now in
    let volume = c.args.volume.now in
    let known = known_ends w host volume c.in_ok-ports.ports.items (has_some c.in_ok-ports.ports.items c.in_ok-ports.ports.len c.is_empty.result (omega arith) c.is_empty.ensures c.if-is_empty.false) c.in_ok-ports.ensures (a_value c.volume.result (get w.inventory.volumes volume) c.is_none.result c.volume.ensures.volume c.is_none.ensures c.if-is_none.false) in
    let mapped = mapped_in w host volume c.mapping-mapping.result.now (map now c.in_ok-mapped.mapped.items) c.mapping-mapping.ensures c.in_ok-mapped.ensures in
    let served = served_in w host volume c.mapping-mapping.result.now c.in_ok-mapped.mapped.items c.deref.result.now (map now c.in_ok-served.served.items) c.mapping-mapping.ensures c.deref.ensures.value mapped c.in_ok-served.ensures in
    exposed_none w host volume (map now c.in_ok-served.served.items) (map now c.in_ok-exposed.exposed.items) known
    (not_bare_now c.in_ok-served.served.items (has_some c.in_ok-served.served.items c.in_ok-served.served.len c.is_empty-3.result (omega arith) c.is_empty-3.ensures c.if-is_empty-3.false))
    served
    (ap (map now) (has_none c.in_ok-exposed.exposed.items c.in_ok-exposed.exposed.len c.is_empty-4.result (omega arith) c.is_empty-4.ensures c.if-is_empty-4.true))
    (exposed_in w host volume c.in_ok-served.served.items c.deref-2.result.now (map now c.in_ok-exposed.exposed.items) c.deref-2.ensures.value served c.in_ok-exposed.ensures)

pub explain_offered-requires-clause-exposed : goal.explain_offered-requires-clause-exposed
explain_offered-requires-clause-exposed g c =
    let w = seen c.args.view.now in
    let host = c.args.host.now in
    let volume = c.args.volume.now in
    let known = known_ends w host volume c.in_ok-ports.ports.items (has_some c.in_ok-ports.ports.items c.in_ok-ports.ports.len c.is_empty.result (omega arith) c.is_empty.ensures c.if-is_empty.false) c.in_ok-ports.ensures (a_value c.volume.result (get w.inventory.volumes volume) c.is_none.result c.volume.ensures.volume c.is_none.ensures c.if-is_none.false) in
    let mapped = mapped_in w host volume c.mapping-mapping.result.now (map now c.in_ok-mapped.mapped.items) c.mapping-mapping.ensures c.in_ok-mapped.ensures in
    let served = served_in w host volume c.mapping-mapping.result.now c.in_ok-mapped.mapped.items c.deref.result.now (map now c.in_ok-served.served.items) c.mapping-mapping.ensures c.deref.ensures.value mapped c.in_ok-served.ensures in
    let exposed = exposed_in w host volume c.in_ok-served.served.items c.deref-2.result.now (map now c.in_ok-exposed.exposed.items) c.deref-2.ensures.value served c.in_ok-exposed.ensures in
    (known, some_has (IsExposedBy w.config.mapping host volume) (map now c.in_ok-exposed.exposed.items) (not_bare_now c.in_ok-exposed.exposed.items (has_some c.in_ok-exposed.exposed.items c.in_ok-exposed.exposed.len c.is_empty-4.result (omega arith) c.is_empty-4.ensures c.if-is_empty-4.false)) exposed)

pub explain_offered-requires-clause-ports : goal.explain_offered-requires-clause-ports
explain_offered-requires-clause-ports g c =
    subst (λ (ps : List Port). AreJust (λ (p : Port). (f : Fabric) × IsLogin (seen c.args.view.now) c.args.host.now f p) ps) (sym c.deref-3.ensures.value) c.in_ok-ports.ensures

pub explain_offered-requires-clause-groups : goal.explain_offered-requires-clause-groups
explain_offered-requires-clause-groups g c =
    let w = seen c.args.view.now in
    let host = c.args.host.now in
    let volume = c.args.volume.now in
    let mapped = mapped_in w host volume c.mapping-mapping.result.now (map now c.in_ok-mapped.mapped.items) c.mapping-mapping.ensures c.in_ok-mapped.ensures in
    let served = served_in w host volume c.mapping-mapping.result.now c.in_ok-mapped.mapped.items c.deref.result.now (map now c.in_ok-served.served.items) c.mapping-mapping.ensures c.deref.ensures.value mapped c.in_ok-served.ensures in
    let exposed = exposed_in w host volume c.in_ok-served.served.items c.deref-2.result.now (map now c.in_ok-exposed.exposed.items) c.deref-2.ensures.value served c.in_ok-exposed.ensures in
    subst (λ (rs : List (Bor StorageGroupRows)). AreJust (IsExposedBy w.config.mapping host volume) (map now rs)) (sym c.deref-4.ensures.value) exposed
