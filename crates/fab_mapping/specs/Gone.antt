-- What a mapping names and an inventory has not: it is gone.
use Rattle.std.specs.Prelude.{ℕ, List, Option}
use Rattle.std.specs.Ordering.{nat_cmp}
use Rattle.std.specs.FinMap as map
use Rattle.fab_mapping_base.specs.fab_inventory.Inventories.{InventoryRows}
use Rattle.fab_mapping_base.specs.fab_lemmas.Firsts.{IsFirstWith, HasAt}
use Rattle.fab_mapping_base.specs.fab_names.Orders.{name_cmp}
use Rattle.fab_mapping_base.specs.declared.gone.Gone.{Gone}
use Rattle.fab_mapping_base.specs.declared.gone.Gone.TheVariants as gone
use Rattle.fab_mapping_base.specs.Clashes.{HostGroups, StorageGroups}
use Rattle.fab_mapping_base.specs.Fitting.{LacksHost, LacksArray, LacksTarget, LacksVolume}
use Rattle.fab_mapping.specs.Mappings.{MappingRows}

-- some group lacks it
abbrev pub IsLacking : {G X : Type 0} → (List ℕ → Option G) → (G → X → Type 0) → X → Type 0
IsLacking at Lacks x = (n : List ℕ) × HasAt at (λ g. Lacks g x) n

-- no group lacks anything
abbrev pub LacksNothing : {G X : Type 0} → (List ℕ → Option G) → (G → X → Type 0) → Type 0
LacksNothing {G} {X} at Lacks = (x : X) → ¬ IsLacking at Lacks x

-- the first that is gone, of these groups: by kinds in this order, and then the least
abbrev pub IsFirstGoneOf : InventoryRows → HostGroups → StorageGroups → Gone → Type 0
IsFirstGoneOf inventory host_groups groups (gone.Host n) = IsFirstWith name_cmp (IsLacking host_groups (LacksHost inventory)) n
IsFirstGoneOf inventory host_groups groups (gone.Array n) = LacksNothing host_groups (LacksHost inventory) × IsFirstWith name_cmp (IsLacking groups (LacksArray inventory)) n
IsFirstGoneOf inventory host_groups groups (gone.Target q) = LacksNothing host_groups (LacksHost inventory) × LacksNothing groups (LacksArray inventory) × IsFirstWith nat_cmp (IsLacking groups (LacksTarget inventory)) q
IsFirstGoneOf inventory host_groups groups (gone.Volume n) =
    LacksNothing host_groups (LacksHost inventory) × LacksNothing groups (LacksArray inventory) × LacksNothing groups (LacksTarget inventory) × IsFirstWith name_cmp (IsLacking groups (LacksVolume inventory)) n

-- the first of the mapping that is gone
abbrev pub IsFirstGone : InventoryRows → MappingRows → Gone → Type 0
IsFirstGone inventory v = IsFirstGoneOf inventory (map.get v.host_groups) (map.get v.groups)
