-- The order of paths is total, and tells paths apart.
use Rattle.std.proofs.Common.{◌≡◌, refl}
use Rattle.std.specs.Ordering.{nat_cmp}
use Rattle.std.specs.Cmp.{IsTotalOrder, nat_cmp_total}
use Rattle.std.proofs.lemmas.Cmp.{on_total, then_total}
use Rattle.std.specs.FinSet as set
use Rattle.fab_mapping.specs.fab_mapping_base.fab_names.contracts.fabric.FabricOrd.TheImpl.Laws.{total-law}
use Rattle.fab_mapping.specs.fab_mapping_base.fab_names.Orders.{fabric_cmp, name_cmp}
use Rattle.fab_names.proofs.OrderLaws.{both_equal, fabric_exact, name_total, name_exact}
use Rattle.fab_reach_base.specs.Orders.{path_cmp, path_order}
use Rattle.fab_reach_base.specs.declared.path.Path.{Path}

pub path_total : IsTotalOrder path_cmp
path_total =
    then_total (on_total (λ (x : Path). x.fabric) total-law)
    (then_total (on_total (λ (x : Path). x.initiator) nat_cmp_total)
    (then_total (on_total (λ (x : Path). x.target) nat_cmp_total) (then_total (on_total (λ (x : Path). x.volume) name_total) (on_total (λ (x : Path). x.unit) nat_cmp_total))))

pub path_exact : set.IsAntisymmetric path_cmp
path_exact a b e =
    let f = both_equal (fabric_cmp a.fabric b.fabric) _ e in
    let p = both_equal (nat_cmp a.initiator b.initiator) _ f.1 in
    let q = both_equal (nat_cmp a.target b.target) _ p.1 in
    let v = both_equal (name_cmp a.volume b.volume) _ q.1 in
    λ i. record {
      fabric = fabric_exact a.fabric b.fabric f.0 i;
      initiator = set.nat_cmp-IsAntisymmetric a.initiator b.initiator p.0 i;
      target = set.nat_cmp-IsAntisymmetric a.target b.target q.0 i;
      volume = name_exact a.volume b.volume v.0 i;
      unit = set.nat_cmp-IsAntisymmetric a.unit b.unit v.1 i;
    }

-- the order that the code has is the one that is stated
pub in_order : (x y : Path) → path_cmp x y ≡ path_order x y
in_order x y = refl
