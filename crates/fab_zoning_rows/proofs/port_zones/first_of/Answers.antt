use Rattle.std.proofs.Common.{◌≡◌, ℕ, List, ◌∷◌, [], ◌++◌, false, sym, ap, ◌∙◌}
use Rattle.std.specs.List.{list_any}
use Rattle.std.specs.Ordering.{eq_by_cmp}
use Rattle.fab_inventory.specs.fab_names.Orders.{name_cmp}
use Rattle.fab_inventory.proofs.fab_names.OrderLaws.{name_total, name_exact}
use Rattle.fab_zoning_rows.specs.PortZones.{in_zones}
use Rattle.fab_inventory.proofs.fab_lemmas.Walks.{walked, walk_end, all_push, all_found, first_key, key_there}
use Rattle.fab_zoning_rows.proofs.port_zones.first_of.Goals as goal

pub loop-zone-preserved : goal.loop-zone-preserved
loop-zone-preserved g c = (
  c.loop-zone.invariant.0 ++ c.in-Some.zone.now ∷ [],
  walked c.args.zones.now.keys c.loop-zone.invariant.0 c.loop-zone.zone-iterator c.next.new.self c.in-Some.zone.now c.loop-zone.invariant.1 c.in-Some.ensures.steps,
  all_push (λ (z : List ℕ). in_zones c.args.port.now z ≡ false) c.loop-zone.invariant.0 c.in-Some.zone.now c.loop-zone.invariant.2 (sym c.if-contains.ensures),
)

pub returns-then-contains : goal.returns-then-contains
returns-then-contains g c =
    let keys = c.args.zones.now.keys in
    record {
      one = key_there name_total name_exact keys c.loop-zone.invariant.0 c.loop-zone.zone-iterator c.next.new.self c.in-Some.zone.now c.loop-zone.invariant.1 c.in-Some.ensures.steps;
      other = sym {b = in_zones c.args.port.now c.in-Some.zone.now} c.if-contains.ensures;
      least = first_key name_total name_exact (in_zones c.args.port.now) keys c.loop-zone.invariant.0 c.loop-zone.zone-iterator c.next.new.self c.in-Some.zone.now c.loop-zone.invariant.1 c.in-Some.ensures.steps
          c.into_iter-zone-iterator.ensures.into_iter_gives.4 c.loop-zone.invariant.2;
    }

pub returns : goal.returns
returns g c z there =
    all_found name_total name_exact (λ (y : List ℕ). in_zones c.args.port.now y ≡ false) c.loop-zone.invariant.0 z c.loop-zone.invariant.2
    (ap (λ (ks : List (List ℕ)). list_any (eq_by_cmp name_cmp z) ks) (walk_end c.args.zones.now.keys c.loop-zone.invariant.0 c.loop-zone.zone-iterator c.loop-zone.invariant.1 c.in-None.ensures.steps.0) ∙ there)
