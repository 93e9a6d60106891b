-- Which rows of any table stand in a world.
use Rattle.fab_store_world.specs.Standing.{IsPlanRow, IsApprovalRow, IsUndoRow}
use Rattle.fab_store_world.specs.Tables.{IsCountRow, IsPortRow, IsAddressRow, IsHolderRow, IsVolumeRow, IsConfigRow, IsRowOfPath}
use Rattle.fab_store_tables.specs.Rows.{AnyRow, count, port, address, holder, volume, config_row, plan, approval, undo, path}
use Rattle.fab_world.specs.Worlds.{WorldRows}

-- the row stands in the world
abbrev pub StandsRow : WorldRows → AnyRow → Type 0
StandsRow w (count r) = IsCountRow w r
StandsRow w (port r) = IsPortRow w r
StandsRow w (address r) = IsAddressRow w r
StandsRow w (holder r) = IsHolderRow w r
StandsRow w (volume r) = IsVolumeRow w r
StandsRow w (config_row r) = IsConfigRow w r
StandsRow w (plan r) = IsPlanRow w r
StandsRow w (approval r) = IsApprovalRow w r
StandsRow w (undo r) = IsUndoRow w r
StandsRow w (path r) = IsRowOfPath w r

-- the row stands in the one world, and not in the other
abbrev pub StandsOnlyIn : WorldRows → WorldRows → AnyRow → Type 0
StandsOnlyIn w other x = StandsRow w x × (¬ StandsRow other x)
