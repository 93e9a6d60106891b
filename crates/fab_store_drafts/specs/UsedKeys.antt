-- The order of what is used tells it apart.
use Rattle.std.specs.declared.cmp.Ordering.{Ordering}
use Rattle.std.specs.FinSet as set
use Rattle.fab_reach_base.specs.fab_names.Orders.{name_cmp, fabric_cmp}
use Rattle.fab_names.proofs.OrderLaws.{both_equal, fabric_exact, name_exact}
use Rattle.fab_store_drafts.specs.declared.uses.Used.{Used}
use Rattle.fab_store_drafts.specs.declared.uses.Used.TheVariants as used
use Rattle.fab_store_drafts.specs.contracts.uses.UsedOrd.TheImpl as order

-- the order of what is used
abbrev pub used_cmp : Used → Used → Ordering
used_cmp = order.ghosts.cmp

pub used_exact : set.IsAntisymmetric used_cmp
used_exact (used.Alias f n) (used.Alias g m) e =
    let w = both_equal (fabric_cmp f g) (name_cmp n m) e in
    λ i. used.Alias (fabric_exact f g w.0 i) (name_exact n m w.1 i)
used_exact (used.Alias f n) (used.Zone g m) e = absurd cc
used_exact (used.Alias f n) (used.HostGroup m) e = absurd cc
used_exact (used.Alias f n) (used.Host m) e = absurd cc
used_exact (used.Zone f n) (used.Alias g m) e = absurd cc
used_exact (used.Zone f n) (used.Zone g m) e =
    let w = both_equal (fabric_cmp f g) (name_cmp n m) e in
    λ i. used.Zone (fabric_exact f g w.0 i) (name_exact n m w.1 i)
used_exact (used.Zone f n) (used.HostGroup m) e = absurd cc
used_exact (used.Zone f n) (used.Host m) e = absurd cc
used_exact (used.HostGroup n) (used.Alias g m) e = absurd cc
used_exact (used.HostGroup n) (used.Zone g m) e = absurd cc
used_exact (used.HostGroup n) (used.HostGroup m) e = λ i. used.HostGroup (name_exact n m e i)
used_exact (used.HostGroup n) (used.Host m) e = absurd cc
used_exact (used.Host n) (used.Alias g m) e = absurd cc
used_exact (used.Host n) (used.Zone g m) e = absurd cc
used_exact (used.Host n) (used.HostGroup m) e = absurd cc
used_exact (used.Host n) (used.Host m) e = λ i. used.Host (name_exact n m e i)
