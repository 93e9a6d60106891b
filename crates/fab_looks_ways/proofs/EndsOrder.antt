-- The order of ends is total, and tells ends apart.
use Rattle.std.proofs.Common.{◌≡◌, refl, true, cond}
use Rattle.std.specs.Ordering.{nat_cmp}
use Rattle.std.specs.BTreeMap.{is_at}
use Rattle.std.specs.BTreeSet.{BTreeSet, contains}
use Rattle.std.specs.Cmp.{IsTotalOrder, nat_cmp_total}
use Rattle.std.proofs.lemmas.Cmp.{on_total, then_total}
use Rattle.std.specs.FinSet as set
use Rattle.fab_reach_base.specs.fab_names.contracts.fabric.FabricOrd.TheImpl.Laws.{total-law}
use Rattle.fab_reach_base.specs.fab_names.Orders.{fabric_cmp}
use Rattle.fab_reach_base.specs.Adding.{Adds}
use Rattle.fab_reach_base.proofs.fab_names.OrderLaws.{both_equal, fabric_exact}
use Rattle.fab_reach_base.proofs.Sets.{adds_insert}
use Rattle.fab_looks_ways.specs.Pairs.{HasEnds, ends_cmp, ends_order}
use Rattle.fab_looks_ways.specs.declared.ends.Ends.{Ends}

pub ends_total : IsTotalOrder ends_cmp
ends_total = then_total (on_total (λ (x : Ends). x.fabric) total-law) (then_total (on_total (λ (x : Ends). x.initiator) nat_cmp_total) (on_total (λ (x : Ends). x.target) nat_cmp_total))

pub ends_exact : set.IsAntisymmetric ends_cmp
ends_exact a b e =
    let f = both_equal (fabric_cmp a.fabric b.fabric) _ e in
    let p = both_equal (nat_cmp a.initiator b.initiator) _ f.1 in
    λ i. record {
      fabric = fabric_exact a.fabric b.fabric f.0 i;
      initiator = set.nat_cmp-IsAntisymmetric a.initiator b.initiator p.0 i;
      target = set.nat_cmp-IsAntisymmetric a.target b.target p.1 i;
    }

-- an insertion adds its ends
pub adds_ends : (s n : BTreeSet Ends) (k : Ends) → ((q : Ends) → contains ends_cmp n q ≡ cond (is_at (ends_cmp k) q) true (contains ends_cmp s q)) → Adds (λ y. y ≡ k) (HasEnds s) (HasEnds n)
adds_ends = adds_insert ends_total ends_exact

-- the order that the code has is the one that is stated
pub in_order : (x y : Ends) → ends_cmp x y ≡ ends_order x y
in_order x y = refl
