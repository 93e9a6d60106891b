-- Groups that are put together from their heads and parts.
use Rattle.std.specs.Prelude.{ℕ, List, Option, None, Some}
use Rattle.std.specs.declared.cmp.Ordering.{Ordering}
use Rattle.std.specs.Ordering.{nat_cmp}
use Rattle.std.specs.BTreeMap.{BTreeMap, get}
use Rattle.std.specs.BTreeSet.{BTreeSet}
use Rattle.std.specs.FinMap as map
use Rattle.std.specs.FinSet as set
use Rattle.fab_names.specs.Orders.{name_cmp}
use Rattle.fab_reach_base.specs.fab_lemmas.MapsOfSets.{seen_set}
use Rattle.fab_reach_base.specs.fab_mapping_base.Groups.{HostGroupRows, StorageGroupRows}
use Rattle.fab_store_load.specs.declared.kinds.Head.{Head}
use Rattle.fab_store_load.specs.declared.groups.Parts.{Parts}

-- the set that was found, or none
abbrev pub set_at : {X : Type 0} (R : X → X → Ordering) → Option (BTreeSet X) → set.FinSet R
set_at R None = set.empty
set_at R (Some s) = seen_set R s

-- the map that was found, or none
abbrev pub map_at : {K X : Type 0} (R : K → K → Ordering) → Option (BTreeMap K X) → map.FinMap R X
map_at R None = map.empty
map_at R (Some t) = map.from_entries t.entries

-- the host group of this name and tenant, with the hosts that stand under its name
abbrev pub host_group_at : BTreeMap (List ℕ) (BTreeSet (List ℕ)) → List ℕ → List ℕ → HostGroupRows
host_group_at hosts q tenant = record { tenant = tenant; hosts = set_at name_cmp (get name_cmp hosts q) }

-- the storage group of this name and head, with the parts that stand under its name
abbrev pub storage_group_at : {A : Type 0} → Parts A → List ℕ → Head → StorageGroupRows
storage_group_at p q h = record {
  tenant = h.tenant;
  array = h.array;
  host_groups = set_at name_cmp (get name_cmp p.served q);
  targets = set_at nat_cmp (get name_cmp p.targets q);
  units = map_at nat_cmp (get name_cmp p.units q);
  exposed = h.exposed;
}
