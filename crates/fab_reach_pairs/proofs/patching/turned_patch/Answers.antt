use Rattle.std.specs.Ordering.{nat_cmp}
use Rattle.fab_zoning.specs.Edits.{IsIn}
use Rattle.fab_reach_index.specs.Indexes.{zone_cmp, PortInZone, ZoneHasPort}
use Rattle.fab_reach_pairs.proofs.Leading.{leads_by}
use Rattle.fab_reach_pairs.proofs.Going.{goes_round}
use Rattle.fab_reach_pairs.proofs.patching.turned_patch.Goals as goal

pub returns : goal.returns
returns g c w v are goes = leads_by zone_cmp nat_cmp (ZoneHasPort w) (λ z p. IsIn nat_cmp zone_cmp c.args.gone.now (p, z)) (λ z p. IsIn nat_cmp zone_cmp c.args.come.now (p, z)) (ZoneHasPort v) c.args.index.now.ports c.in_ok-gone.gone c.in_ok-come.come c.in_ok-ports.ports
    are c.in_ok-gone.ensures c.in_ok-come.ensures (goes_round (PortInZone w) (λ p z. IsIn nat_cmp zone_cmp c.args.gone.now (p, z)) (λ p z. IsIn nat_cmp zone_cmp c.args.come.now (p, z)) (PortInZone v) goes) c.in_ok-ports.ensures
