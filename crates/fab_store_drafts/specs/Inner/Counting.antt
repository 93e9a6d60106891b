-- How much there is in the zoning of a fabric.
use Rattle.std.specs.Prelude.{◌<◌, ◌≤◌, IsSome}
use Rattle.std.specs.FinMap as map
use Rattle.std.specs.FinSet as set
use Rattle.fab_reach_base.specs.fab_zoning_rows.Limits.{most_rows}
use Rattle.fab_reach_base.specs.fab_zoning.Limits.{most_aliases, most_zones, most_sets}
use Rattle.fab_reach_base.specs.fab_zoning.Zonings.{FabricZoning}

-- not too many aliases, zones and zone sets
pub record HasFewSets (v : FabricZoning) : Type 0 where
  pub few_aliases : map.len v.aliases ≤ most_aliases
  pub few_zones : map.len v.zones ≤ most_zones
  pub few_sets : map.len v.sets ≤ most_sets

-- a name is active just where there are rows, and not too many of them
pub record IsActiveCounted (v : FabricZoning) : Type 0 where
  pub has_rows : IsSome v.active → 0 < set.len v.rows
  pub has_name : 0 < set.len v.rows → IsSome v.active
  pub few_rows : set.len v.rows ≤ most_rows
