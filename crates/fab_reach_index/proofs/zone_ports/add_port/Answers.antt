use Rattle.std.proofs.Common.{◌≡◌, ℕ, ◌∷◌, [], ◌++◌, ◌∙◌}
use Rattle.fab_lemmas.proofs.Walks.{walked, walk_end}
use Rattle.fab_zoning.specs.Edits.{IsIn}
use Rattle.fab_reach_base.proofs.Adding.{before_more}
use Rattle.std.specs.Ordering.{nat_cmp}
use Rattle.fab_reach_index.specs.Indexes.{Zone, zone_cmp}
use Rattle.fab_reach_index.proofs.ZonesPlaced.{port_placed}
use Rattle.fab_reach_index.proofs.zone_ports.add_port.Goals as goal

pub loop-zone-preserved : goal.loop-zone-preserved
loop-zone-preserved g c =
    let i = c.loop-zone.invariant in (
      i.0 ++ c.in-Some.zone.now ∷ [],
      walked c.into_iter-zone-iterator.result i.0 c.loop-zone.zone-iterator c.next.new.self c.in-Some.zone.now i.1 c.in-Some.ensures.steps,
      before_more (λ (z : Zone) (e : Zone × ℕ). e ≡ (z, c.args.port)) i.0 c.in-Some.zone.now (IsIn zone_cmp nat_cmp c.args.ports.now) (IsIn zone_cmp nat_cmp c.loop-zone.ports) (IsIn zone_cmp nat_cmp c.add_at.new.sets) i.2
          (c.in_ok-add_at.ensures),
    )

pub returns : goal.returns
returns g c =
    let i = c.loop-zone.invariant in
    port_placed (c.args.port, c.args.zones.now) i.0 (IsIn zone_cmp nat_cmp c.args.ports.now) (IsIn zone_cmp nat_cmp c.loop-zone.ports)
    (walk_end c.into_iter-zone-iterator.result i.0 c.loop-zone.zone-iterator i.1 c.in-None.ensures.steps.0 ∙ c.into_iter-zone-iterator.ensures.into_iter_gives.0) i.2
