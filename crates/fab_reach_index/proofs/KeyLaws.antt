-- The order of zones is total, and tells them apart.
use Rattle.std.specs.Cmp.{IsTotalOrder, then_total, on_total}
use Rattle.std.specs.FinSet as set
use Rattle.std.proofs.lemmas.Map.Lookups.{exact_pairs}
use Rattle.fab_names.specs.Orders.{name_cmp, fabric_cmp}
use Rattle.fab_names.specs.contracts.fabric.FabricOrd.TheImpl.Laws.{total-law as fabric_total}
use Rattle.fab_names.proofs.OrderLaws.{fabric_exact, name_total, name_exact}
use Rattle.fab_reach_index.specs.Indexes.{Zone, zone_cmp}

pub zone_total : IsTotalOrder zone_cmp
zone_total = then_total (on_total (λ (z : Zone). z.0) fabric_total) (on_total (λ (z : Zone). z.1) name_total)

pub zone_exact : set.IsAntisymmetric zone_cmp
zone_exact = exact_pairs fabric_cmp name_cmp fabric_exact name_exact
