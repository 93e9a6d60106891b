-- The zoning of one fabric becomes another.
use Rattle.std.specs.Prelude.{◌≡◌}
use Rattle.fab_reach_base.specs.fab_names.declared.fabric.Fabric.{Fabric}
use Rattle.fab_reach_base.specs.fab_names.declared.fabric.Fabric.TheVariants.{A, B}
use Rattle.fab_reach_base.specs.fab_zoning.Zonings.{FabricZoning}
use Rattle.fab_reach_base.specs.fab_zoning.Edits.{Puts, Takes}
use Rattle.fab_store_rows.specs.declared.config_row.ZoningItem.{ZoningItem}
use Rattle.fab_store_rows.specs.Standing.{HasItem}
use Rattle.fab_reach_base.specs.Records.{ConfigRows}

-- with this zoning at the fabric
abbrev pub with_zoning : Fabric → FabricZoning → ConfigRows → ConfigRows
with_zoning A w c = record c { a = w }
with_zoning B w c = record c { b = w }

-- one item more, and all else as it was
pub record PutsItem (i : ZoningItem) (old new : FabricZoning) : Type 0 where
  pub puts : Puts i (HasItem old) (HasItem new)
  pub rest : new ≡ record old { aliases = new.aliases; zones = new.zones; sets = new.sets }

-- one item less, and all else as it was
pub record TakesItem (i : ZoningItem) (old new : FabricZoning) : Type 0 where
  pub takes : Takes i (HasItem old) (HasItem new)
  pub rest : new ≡ record old { aliases = new.aliases; zones = new.zones; sets = new.sets }
