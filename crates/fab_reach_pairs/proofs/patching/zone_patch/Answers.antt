use Rattle.std.specs.Ordering.{nat_cmp}
use Rattle.fab_zoning.specs.Edits.{IsIn}
use Rattle.fab_reach_base.specs.Views.{seen}
use Rattle.fab_reach_books.specs.Inner.Sets.{HasPortIn}
use Rattle.fab_reach_index.specs.Indexes.{zone_cmp, PortInZone}
use Rattle.fab_reach_pairs.proofs.Leading.{leads_by}
use Rattle.fab_reach_pairs.proofs.Going.{zones_go, goes_as}
use Rattle.fab_reach_pairs.proofs.patching.zone_patch.Goals as goal

pub returns-clause-zones : goal.returns-clause-zones
returns-clause-zones g c v s t m =
    let w = seen c.args.before.now in
    leads_by nat_cmp zone_cmp (PortInZone w) (λ p z. HasPortIn c.args.moved.now p × IsIn nat_cmp zone_cmp c.args.index.now.zones (p, z)) (λ p z. HasPortIn c.args.moved.now p × PortInZone v p z) (PortInZone v) c.args.index.now.zones c.in_ok-gone.gone c.in_ok-come.come c.in_ok-zones.zones
    c.requires.zones c.in_ok-gone.ensures (c.in_ok-come.ensures v s t) (zones_go w v c.args.moved.now m c.args.index.now.zones c.requires.zones) c.in_ok-zones.ensures

pub returns-clause-ports : goal.returns-clause-ports
returns-clause-ports g c v s t m =
    let w = seen c.args.before.now in
    c.in_ok-ports.ensures w v c.requires.ports
    (goes_as (PortInZone w) (λ p z. HasPortIn c.args.moved.now p × IsIn nat_cmp zone_cmp c.args.index.now.zones (p, z)) (λ p z. IsIn nat_cmp zone_cmp c.in_ok-gone.gone (p, z)) (λ p z. HasPortIn c.args.moved.now p × PortInZone v p z) (λ p z. IsIn nat_cmp zone_cmp c.in_ok-come.come (p, z)) (PortInZone v)
    (λ p z. ((c.in_ok-gone.ensures p z).1, (c.in_ok-gone.ensures p z).0)) (λ p z. ((c.in_ok-come.ensures v s t p z).1, (c.in_ok-come.ensures v s t p z).0))
    (zones_go w v c.args.moved.now m c.args.index.now.zones c.requires.zones))
