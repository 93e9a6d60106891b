-- A configuration in which nothing is that no row tells.
use Rattle.std.specs.Prelude.{ℕ, ◌≡◌, ◌<◌, List, Some}
use Rattle.std.specs.declared.cmp.Ordering.{Ordering}
use Rattle.std.specs.FinMap as map
use Rattle.std.specs.FinSet as set
use Rattle.fab_reach_base.specs.fab_names.declared.fabric.Fabric.{Fabric}
use Rattle.fab_reach_base.specs.fab_zoning.Zonings.{FabricZoning, NamedSets}
use Rattle.fab_reach_base.specs.Records.{ConfigRows, zoning_at}

-- no set of the map is empty
abbrev pub HasNoEmpty : {K : Type 0} {R : K → K → Ordering} → NamedSets {K = K} R → Type 0
HasNoEmpty {K} {R} m = (n : List ℕ) (s : set.FinSet R) → map.get m n ≡ Some s → 0 < set.len s

-- no alias, zone or zone set is empty
pub record HasNoEmptySet (v : FabricZoning) : Type 0 where
  pub aliases : HasNoEmpty v.aliases
  pub zones : HasNoEmpty v.zones
  pub sets : HasNoEmpty v.sets

-- each zoning is its fabric's, and has no empty set
pub record IsTidy (c : ConfigRows) : Type 0 where
  pub fabrics : (f : Fabric) → (zoning_at c f).fabric ≡ f
  pub no_empty : (f : Fabric) → HasNoEmptySet (zoning_at c f)
