-- Which configurations are sound: by their parts, of themselves, and beside an inventory.
use Rattle.std.specs.Prelude.{◌≡◌}
use Rattle.fab_mapping.specs.fab_mapping_base.fab_names.declared.fabric.Fabric.{Fabric}
use Rattle.fab_mapping.specs.fab_mapping_base.fab_inventory.Inventories.{InventoryRows}
use Rattle.fab_zoning.specs.Soundness as zonings
use Rattle.fab_mapping.specs.Mappings.{HasNoClash}
use Rattle.fab_mapping.specs.Soundness as mappings
use Rattle.fab_reach_base.specs.Records.{ConfigRows, zoning_at}

-- each zoning is its fabric's, and sound
pub record HasSoundZonings (c : ConfigRows) : Type 0 where
  pub fabrics : (f : Fabric) → (zoning_at c f).fabric ≡ f
  pub sound : (f : Fabric) → zonings.IsSound (zoning_at c f)

-- each zoning is its fabric's and sound, and the mapping is sound: unit clashes and the inventory
-- are not looked at
pub record HasSoundParts (c : ConfigRows) : Type 0 where
  pub zonings : HasSoundZonings c
  pub mapping : mappings.IsSound c.mapping

-- sound of itself: an earlier configuration is so too, which may name what is gone since
pub record IsSoundAlone (c : ConfigRows) : Type 0 where
  pub parts : HasSoundParts c
  pub no_clash : HasNoClash c.mapping

-- sound beside an inventory, but for unit clashes: each step keeps it
pub record IsSoundBeside (v : InventoryRows) (c : ConfigRows) : Type 0 where
  pub parts : HasSoundParts c
  pub fits : mappings.Fits v c.mapping
