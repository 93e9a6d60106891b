-- Which rows of all tables stand in a world, and those in which two worlds differ.
use Rattle.std.specs.Prelude.{◌≡◌}
use Rattle.std.specs.declared.cmp.Ordering.{Ordering}
use Rattle.std.specs.declared.cmp.Ordering.TheVariants.{Less, Greater}
use Rattle.std.specs.Ordering.{nat_cmp}
use Rattle.fab_reach_base.specs.fab_lemmas.Lists.{IsListOf}
use Rattle.fab_world.specs.fab_store_rows.declared.config_row.ConfigRow.{ConfigRow}
use Rattle.fab_world.specs.fab_store_rows.declared.inventory_row.PortEntry.{PortEntry}
use Rattle.fab_world.specs.fab_store_rows.declared.inventory_row.AddressRow.{AddressRow}
use Rattle.fab_world.specs.fab_store_rows.declared.inventory_row.HolderRow.{HolderRow}
use Rattle.fab_world.specs.fab_store_rows.declared.inventory_row.VolumeRow.{VolumeRow}
use Rattle.fab_world.specs.fab_store_rows.declared.inventory_row.InventoryRow.TheVariants as row
use Rattle.fab_world.specs.fab_store_rows.declared.record_row.PathRow.{PathRow}
use Rattle.fab_world.specs.fab_store_rows.declared.table_rows.CountRow.{CountRow}
use Rattle.fab_world.specs.fab_store_rows.declared.table_rows.CountRow.TheVariants.{Schema, Revision}
use Rattle.fab_world.specs.fab_store_rows.declared.table_rows.TableRows.{TableRows}
use Rattle.fab_world.specs.fab_store_rows.Schemas.{present_schema}
use Rattle.fab_world.specs.fab_store_rows.RowOrder.{row_order}
use Rattle.fab_world.specs.fab_store_rows.Standing.{IsKnown, Stands}
use Rattle.fab_store_world.specs.Inventories.{entry_order, address_order, holder_order, volume_order}
use Rattle.fab_store_world.specs.Paths.{IsPathRow, path_row_order}
use Rattle.fab_world.specs.Worlds.{WorldRows, records_of}
use Rattle.fab_store_world.specs.Keys.{plan_order, approval_order, undo_order}
use Rattle.fab_store_world.specs.Standing.{IsPlanRow, IsApprovalRow, IsUndoRow, IsOrdered, Lacking}
use Rattle.fab_store_world.specs.declared.tables.Changes.{Changes}

-- ---- which rows stand

-- the row tells the schema, or how many changes there were
abbrev pub IsCountRow : WorldRows → CountRow → Type 0
IsCountRow w (Schema n) = n ≡ present_schema
IsCountRow w (Revision n) = n ≡ w.revision

abbrev pub IsPortRow : WorldRows → PortEntry → Type 0
IsPortRow w r = IsKnown w.inventory (row.Entry r)

abbrev pub IsAddressRow : WorldRows → AddressRow → Type 0
IsAddressRow w r = IsKnown w.inventory (row.Address r)

abbrev pub IsHolderRow : WorldRows → HolderRow → Type 0
IsHolderRow w r = IsKnown w.inventory (row.Holder r)

abbrev pub IsVolumeRow : WorldRows → VolumeRow → Type 0
IsVolumeRow w r = IsKnown w.inventory (row.Volume r)

abbrev pub IsConfigRow : WorldRows → ConfigRow → Type 0
IsConfigRow w r = Stands w.config r

abbrev pub IsRowOfPath : WorldRows → PathRow → Type 0
IsRowOfPath w r = IsPathRow (records_of w) r

-- the schema before the revision
abbrev pub count_order : CountRow → CountRow → Ordering
count_order (Schema m) (Schema n) = nat_cmp m n
count_order (Schema m) (Revision n) = Less
count_order (Revision m) (Schema n) = Greater
count_order (Revision m) (Revision n) = nat_cmp m n

-- ---- the rows in which two worlds differ, table by table

-- each list has the rows of its table that stand in the one world and not in the other: each once, in
-- their order, and no others; the rows of plans where each name is in the orders once, as in those of
-- sound worlds
pub record AreRowsLacking {A : Type 0} (other w : WorldRows) (t : TableRows A) : Type 0 where
  pub counts : IsListOf count_order (Lacking IsCountRow other w) t.counts.items
  pub ports : IsListOf entry_order (Lacking IsPortRow other w) t.ports.items
  pub addresses : IsListOf address_order (Lacking IsAddressRow other w) t.addresses.items
  pub holders : IsListOf holder_order (Lacking IsHolderRow other w) t.holders.items
  pub volumes : IsListOf volume_order (Lacking IsVolumeRow other w) t.volumes.items
  pub config : IsListOf row_order (Lacking IsConfigRow other w) t.config.items
  pub plans : IsOrdered w → IsOrdered other → IsListOf plan_order (Lacking IsPlanRow other w) t.plans.items
  pub approvals : IsListOf approval_order (Lacking IsApprovalRow other w) t.approvals.items
  pub undo : IsListOf undo_order (Lacking IsUndoRow other w) t.undo.items
  pub paths : IsListOf path_row_order (Lacking IsRowOfPath other w) t.paths.items

-- the rows that stand before and not after are removed, and those that stand after and not before are
-- added
pub record AreChanges {A : Type 0} (before after : WorldRows) (c : Changes A) : Type 0 where
  pub removed : AreRowsLacking after before c.removed
  pub added : AreRowsLacking before after c.added
