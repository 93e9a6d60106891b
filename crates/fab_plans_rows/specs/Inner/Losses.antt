-- What rows that came tell and an inventory has not.
use Rattle.std.specs.Prelude.{ℕ, ◌≡◌, List, Contains}
use Rattle.std.specs.declared.cmp.Ordering.{Ordering}
use Rattle.fab_inventory.specs.Inventories.{InventoryRows, IsHost}
use Rattle.fab_lemmas.specs.Firsts.{HasAt}
use Rattle.fab_mapping_base.specs.declared.gone.Gone.{Gone}
use Rattle.fab_mapping_base.specs.declared.gone.Gone.TheVariants as gone
use Rattle.fab_mapping_base.specs.Clashes.{StorageGroups}
use Rattle.fab_mapping_base.specs.Groups.{StorageGroupRows}
use Rattle.fab_mapping_base.specs.Fitting.{IsPortOf, IsVolumeOn, LacksArray, LacksTarget, LacksVolume}
use Rattle.fab_store_rows.specs.declared.config_row.ConfigRow.{ConfigRow}
use Rattle.fab_store_rows.specs.declared.config_row.ConfigRow.TheVariants as config
use Rattle.fab_store_rows.specs.declared.config_row.GroupRow.TheVariants as group
use Rattle.fab_store_rows.specs.declared.config_row.PartRow.TheVariants as parts
use Rattle.fab_store_rows.specs.declared.config_row.StoragePart.{StoragePart}
use Rattle.fab_store_rows.specs.declared.config_row.StoragePart.TheVariants as part
use Rattle.fab_plans_rows.specs.declared.lost.Lost.{Lost}
use Rattle.fab_plans_rows.specs.declared.lost.Lost.TheVariants.{Host, Array, Target, Volume}
use Rattle.fab_plans_rows.specs.contracts.lost.LostOrd.TheImpl as losses

-- by kind, then by name: as the code has it
abbrev pub lost_cmp : Lost → Lost → Ordering
lost_cmp = losses.ghosts.cmp

-- the same, as it is told
abbrev pub told : Lost → Gone
told (Host n) = gone.Host n
told (Array n) = gone.Array n
told (Target q) = gone.Target q
told (Volume n) = gone.Volume n

-- the host of this name, and it is none
abbrev pub LacksName : InventoryRows → List ℕ → Lost → Type 0
LacksName inventory h (Host x) = (x ≡ h) × ¬ IsHost inventory.holders x
LacksName inventory h _ = ⊥

-- of this part of the storage group: the target, and its array does not hold it; the volume, and it is
-- not on its array
abbrev pub PartLacks : InventoryRows → StorageGroupRows → StoragePart → Lost → Type 0
PartLacks inventory g (part.Target t) (Target q) = (q ≡ t) × ¬ IsPortOf inventory g.array q
PartLacks inventory g (part.Unit u w) (Volume v) = (v ≡ w) × ¬ IsVolumeOn inventory g.array v
PartLacks inventory g _ _ = ⊥

-- of the whole storage group
abbrev pub GroupLacks : InventoryRows → StorageGroupRows → Lost → Type 0
GroupLacks inventory g (Host x) = ⊥
GroupLacks inventory g (Array x) = LacksArray inventory g x
GroupLacks inventory g (Target q) = LacksTarget inventory g q
GroupLacks inventory g (Volume v) = LacksVolume inventory g v

-- of what a row that came tells
abbrev pub RowLacks : InventoryRows → StorageGroups → ConfigRow → Lost → Type 0
RowLacks inventory groups (config.Group (group.Storage r)) x = HasAt groups (λ (g : StorageGroupRows). GroupLacks inventory g x) r.name
RowLacks inventory groups (config.Part (parts.Host k h)) x = LacksName inventory h x
RowLacks inventory groups (config.Part (parts.Storage n p)) x = HasAt groups (λ (g : StorageGroupRows). PartLacks inventory g p x) n
RowLacks inventory groups _ x = ⊥

-- of what some row of the list tells
abbrev pub Among : (ConfigRow → Lost → Type 0) → List ConfigRow → Lost → Type 0
Among Lacks rows x = (r : ConfigRow) × Contains rows r × Lacks r x
