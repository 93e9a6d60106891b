-- The order of nexuses is total, and goes by their parts.
use Rattle.std.proofs.Common.{◌≡◌, false, refl, sym, ap, ◌∙◌}
use Rattle.std.specs.declared.cmp.Ordering.{Ordering}
use Rattle.std.specs.declared.cmp.Ordering.TheVariants.{Less, Equal, Greater}
use Rattle.std.specs.Ordering.{nat_cmp, ordering_then, is_gt}
use Rattle.std.specs.Cmp.{IsTotalOrder, then_total, on_total, nat_cmp_total, tied_itself}
use Rattle.fab_inventory.specs.fab_names.Orders.{name_cmp}
use Rattle.fab_inventory.proofs.fab_names.OrderLaws.{name_total}
use Rattle.fab_mapping_base.specs.declared.nexus.Nexus.{Nexus}
use Rattle.fab_mapping_base.specs.Nexuses.{nexus_cmp}

-- nexuses have a total order
pub nexus_total : IsTotalOrder nexus_cmp
nexus_total = then_total (on_total (λ (n : Nexus). n.host) name_total) (then_total (on_total (λ (n : Nexus). n.target) nat_cmp_total) (on_total (λ (n : Nexus). n.unit) nat_cmp_total))

-- ---- from its parts
two_upto : (r s : Ordering) → is_gt r ≡ false → is_gt s ≡ false → is_gt (ordering_then r s) ≡ false
two_upto Less s p q = refl
two_upto Equal s p q = q
two_upto Greater s p q = absurd cc

-- at one host, by target and unit
pub nexus_upto : (a b : Nexus) → a.host ≡ b.host → is_gt (nat_cmp a.target b.target) ≡ false → is_gt (nat_cmp a.unit b.unit) ≡ false → is_gt (nexus_cmp a b) ≡ false
nexus_upto a b same p q = by (name_cmp a.host b.host) (ap (name_cmp a.host) (sym same) ∙ tied_itself name_total a.host)
  where
    by : (r : Ordering) → r ≡ Equal → is_gt (ordering_then r (ordering_then (nat_cmp a.target b.target) (nat_cmp a.unit b.unit))) ≡ false
    by Less e = absurd cc
    by Equal e = two_upto (nat_cmp a.target b.target) (nat_cmp a.unit b.unit) p q
    by Greater e = absurd cc

-- at a host below
pub host_below : (a b : Nexus) → name_cmp a.host b.host ≡ Less → is_gt (nexus_cmp a b) ≡ false
host_below a b less = ap (λ r. is_gt (ordering_then r (ordering_then (nat_cmp a.target b.target) (nat_cmp a.unit b.unit)))) less
