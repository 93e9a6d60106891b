-- The order of nexuses, and what is claimed at them.
use Rattle.std.specs.Prelude.{ℕ, List}
use Rattle.std.specs.declared.cmp.Ordering.{Ordering}
use Rattle.std.specs.Ordering.{nat_cmp, then_cmp, on}
use Rattle.fab_inventory.specs.fab_names.Orders.{name_cmp}
use Rattle.fab_mapping_base.specs.declared.nexus.Nexus.{Nexus}

-- by host, then by target, then by unit
abbrev pub nexus_cmp : Nexus → Nexus → Ordering
nexus_cmp = then_cmp (on (λ n. n.host) name_cmp) (then_cmp (on (λ n. n.target) nat_cmp) (on (λ n. n.unit) nat_cmp))

-- a nexus, and a volume that a storage group maps there
abbrev pub Claim : Type 0
Claim = Nexus × List ℕ
