-- The rows of all tables of a world.
use Rattle.std.specs.Prelude.{ℕ, ◌≡◌}
use Rattle.std.specs.FinMap as map
use Rattle.fab_world.specs.fab_store_load.Configs.{AreConfigRows}
use Rattle.fab_world.specs.fab_store_load.Inventories.{AreAll, AreInventoryRows}
use Rattle.fab_world.specs.fab_store_rows.declared.table_rows.CountRow.{CountRow}
use Rattle.fab_world.specs.fab_store_rows.declared.table_rows.CountRow.TheVariants.{Schema, Revision}
use Rattle.fab_world.specs.fab_store_rows.declared.table_rows.TableRows.{TableRows}
use Rattle.fab_world.specs.fab_store_rows.Schemas.{present_schema}
use Rattle.fab_store_world.specs.Paths.{ArePathRows}
use Rattle.fab_reach_base.specs.Soundness.{HasSoundZonings}
use Rattle.fab_store_world.specs.PlanRows.{ArePlans, ListInOrder}
use Rattle.fab_world.specs.Soundness.{IsSound}
use Rattle.fab_world.specs.Worlds.{WorldRows, records_of}

-- the row tells the schema, or that there were so many changes
abbrev pub IsCount : ℕ → CountRow → Type 0
IsCount revision (Schema n) = n ≡ present_schema
IsCount revision (Revision n) = n ≡ revision

-- the rows of all tables but that of paths are those of the world, and no others
pub record AreRecords {A : Type 0} (t : TableRows A) (w : WorldRows) : Type 0 where
  pub counts_are : AreAll t.counts.items (IsCount w.revision)
  pub inventory_are : AreInventoryRows t.ports.items t.addresses.items t.holders.items t.volumes.items w.inventory
  pub config_are : AreConfigRows t.config.items w.config
  pub plans_are : ArePlans t.plans.items t.approvals.items t.undo.items (map.get w.plans) w.order

-- the rows of the thirteen tables are those of the world, and no others
pub record AreTableRows {A : Type 0} (t : TableRows A) (w : WorldRows) : Type 0 where
  pub records_are : AreRecords t w
  pub paths_are : ArePathRows (records_of w) t.paths.items

-- ---- on the way

-- a world of the rows, which may yet be unsound
pub record IsMadeOfTables {A : Type 0} (t : TableRows A) (w : WorldRows) : Type 0 where
  pub records_are : AreRecords t w
  pub zonings : HasSoundZonings w.config
  pub in_order : ListInOrder (map.get w.plans)

-- no sound world has these rows
abbrev pub HasNoWorld : {A : Type 0} → TableRows A → Type 0
HasNoWorld t = (w : WorldRows) → AreTableRows t w → ¬ IsSound w
