-- The numbers of the rows of a sound world are within their range.
use Rattle.std.proofs.Common.{◌≤◌, arith}
use Rattle.fab_store_rows.specs.declared.record_row.PathRow.{PathRow}
use Rattle.fab_store_rows.specs.declared.table_rows.CountRow.TheVariants.{Schema, Revision}
use Rattle.fab_store_world.specs.Tables.{IsRowOfPath}
use Rattle.fab_mapping_base.specs.declared.limits.TheConstants.{LAST_UNIT}
use Rattle.fab_store_tables.specs.Rows.{AnyRow, count, port, address, holder, volume, config_row, plan, approval, undo, path, IsInRange}
use Rattle.fab_store_base.proofs.Positions.{position_in_range}
use Rattle.fab_store_base.proofs.UnitsOfRows.{config_in_range, undo_in_range}
use Rattle.fab_store_base.specs.Standing.{StandsRow}
use Rattle.fab_world.specs.Soundness.{IsSound}
use Rattle.fab_world.specs.Worlds.{WorldRows}

-- an exposed storage group maps the volume of the path at its unit
path_in_range : (w : WorldRows) → IsSound w → (r : PathRow) → IsRowOfPath w r → r.path.unit ≤ LAST_UNIT
path_in_range w sound r there =
    let maps = there.0.mapped in
    (sound.config.parts.mapping.groups maps.0 maps.1 maps.2).numbers r.path.unit r.path.volume maps.4.4.2

pub row_in_range : (w : WorldRows) → IsSound w → (x : AnyRow) → StandsRow w x → IsInRange x
row_in_range w sound (count (Schema n)) there = omega (arith, there)
row_in_range w sound (count (Revision n)) there = omega (arith, there, sound.few_changes)
row_in_range w sound (port r) there = tt
row_in_range w sound (address r) there = tt
row_in_range w sound (holder r) there = tt
row_in_range w sound (volume r) there = sound.inventory.capacities r.name _ there
row_in_range w sound (config_row r) there = config_in_range w.config sound.config r there
row_in_range w sound (plan r) there = position_in_range w sound r.name r.position there.position
row_in_range w sound (approval r) there = omega (arith, (sound.plans r.plan there.0 there.1).approvals r.caller r.revision there.2)
row_in_range w sound (undo r) there = undo_in_range w sound r there
row_in_range w sound (path r) there = path_in_range w sound r there
